-- The numbers of a set are opened, and stand for it; and what is opened are the numbers of the set that it stands for.
use Rattle.std.proofs.Common.{◌≡◌, ℕ, Bool, List, length, Ok, Err, OnOk, refl, subst, arith}
use Rattle.std.specs.Bool.{one_answer}
use Rattle.std.proofs.lemmas.Bool.{cond_both, both_ways}
use Rattle.faults.specs.Checks.{Check, CheckIs, last_check, located, first_of}
use Rattle.faults.specs.declared.fault.Flaw.TheVariants.{Numbers, Content}
use Rattle.faults.specs.declared.fault.Form as forms
use Rattle.faults.proofs.Steps.{range_law, passed}
use Rattle.sets.specs.declared.Sort.TheVariants.{Members}
use Rattle.sets.specs.Made.{made_length}
use Rattle.sets.specs.Sets.{LastBay, Sized}
use Rattle.sets.proofs.Bays.{is_bay}
use Rattle.sets.proofs.Made.{made_again}
use Rattle.sets.proofs.Same.{lists_same}
use Rattle.list.specs.Decoding.{is_among, set_of}
use Rattle.list.specs.Filling.{numbers_of}
use Rattle.list.specs.Lawful.{RisesWithin, rises, list_check}
use Rattle.list.specs.Opening.{opening}
use Rattle.list.proofs.Lawful.{lawful_if, rises_if, inside}
use Rattle.list.proofs.Listed.{lists_members, numbers_rise}
use Rattle.list.proofs.Members.{among_if, if_among, place_of, decodes}

-- ---- filled and opened

rises_law : (u : ℕ) (ns : List ℕ) → CheckIs 3 (RisesWithin u ns) (list_check u ns)
rises_law u ns =
    cond_both (rises u 1 ns) (Ok tt) (Err Content) (CheckIs 3 (RisesWithin u ns))
    (λ e. lawful_if u 1 ns e)
    (λ e. (refl, λ h. both_ways _ e (rises_if u 1 ns h.0 h.1)))

taken : (u : ℕ) (ns : List ℕ) → LastBay u → RisesWithin u ns → opening u ns ≡ Ok tt
taken u ns h r =
    let last = passed 1 (LastBay u) (last_check u) (range_law Numbers 1 65535 u) h in
    let list = passed 3 (RisesWithin u ns) (list_check u ns) (rises_law u ns) r in
    λ i. first_of (located forms.TheVariants.List 0 (last i)) (located forms.TheVariants.List 1 (list i))

pub opened : (s : List Bool) → Sized s → opening (length s) (numbers_of s) ≡ Ok tt
opened s h = taken (length s) (numbers_of s) h (numbers_rise s)

pub stands : (s : List Bool) → set_of (length s) (numbers_of s) ≡ s
stands s =
    let ns = numbers_of s in
    let law = lists_members s in
    made_again s (is_among ns) (λ i l h. one_answer _ _ (among_if ns i, if_among ns i) (law.all i, law.only i))

-- ---- opened and filled

both_passed : (u : ℕ) (ns : List ℕ) (last list : Check) → CheckIs 3 (RisesWithin u ns) list
    → OnOk (first_of (located forms.TheVariants.List 0 last) (located forms.TheVariants.List 1 list)) (RisesWithin u ns)
both_passed u ns (Ok _) (Ok _) law = law
both_passed u ns (Ok _) (Err e) law = tt
both_passed u ns (Err e) list law = tt

-- what rises within the bays 1 to u is the list of the set that it stands for
listed_again : (u : ℕ) (ns : List ℕ) → RisesWithin u ns → numbers_of (set_of u ns) ≡ ns
listed_again u ns r =
    let s = set_of u ns in
    let law = lists_members s in
    let same = (decodes u ns).1 in
    lists_same 0 1 (numbers_of s) ns law.rising r.0
    (λ j m. let e = law.only j m in let bay = is_bay s Members j e in (same j bay.0 (omega (arith, bay.1, made_length u (is_among ns)))).0 e)
    (λ j m.
    let at = place_of ns j (if_among ns j m) in
    let bay = inside u ns r at.0 at.1.0 in
    law.all j ((same j (omega (arith, bay.0, at.1.1)) (omega (arith, bay.1, at.1.1))).1 m))

pub refilled : (u : ℕ) (ns : List ℕ) → opening u ns ≡ Ok tt → numbers_of (set_of u ns) ≡ ns
refilled u ns e = listed_again u ns (subst (λ v. OnOk v (RisesWithin u ns)) e (both_passed u ns (last_check u) (list_check u ns) (rises_law u ns)))
