-- What judging answers is due: the first that does not hold is named.
use Rattle.std.proofs.Common.{◌≡◌, ℕ, suc, ◌+◌, ◌-◌, ◌≤◌, List, [], ◌∷◌, length, leb, Ok, Err, refl, sym, ap, subst, inl, inr, ◌∙◌, arith}
use Rattle.std.proofs.lemmas.Bool.{cond_both, leb-true, leb-false}
use Rattle.faults.specs.Checks.{CheckIs, Verdict, located, first_of}
use Rattle.faults.specs.declared.fault.Form.{Form}
use Rattle.faults.specs.declared.fault.Flaw.TheVariants.{Room}
use Rattle.filling.specs.Layouts.{lengths}
use Rattle.filling.specs.Rooms.{room_check}
use Rattle.forms.specs.declared.choice.Choice.{Choice}
use Rattle.forms.specs.declared.choice.Choice.TheVariants as choices
use Rattle.chains.specs.Judging.{Stage, ChainVerdict, placed, first_fault, sizing, rooming, judging, NeedsAt, SizesFit, PartsFit, RoomsFit, JudgingIs}
use Rattle.forms.specs.Choices.{layout_of, by_width, SizeFits}
use Rattle.forms.specs.Cutting.{rooms_in}
use Rattle.forms.specs.Laying.{rooms_told, bytes_of, numbers_of}
use Rattle.forms.specs.Telling.{told_of, bytes_told, numbers_told}
use Rattle.forms.proofs.Stepped.{tells_layout}
use Rattle.forms.proofs.Laid.{told_bytes, told_numbers}
use Rattle.chains.proofs.Sizes.{Says, located_says, size_says}
use Rattle.chains.proofs.Within.{room_fits, told_within}

needs_at : (t : Stage) (n part : ℕ) (P : Type 0) (v : Verdict) (rest : ChainVerdict → Type 0) (w : ChainVerdict) → Says (layout_of t.choice).form n part P v → (v ≡ Ok tt → P → rest w)
    → NeedsAt t n part P rest (first_fault (placed t v) w)
needs_at t n part P (Ok _) rest (Ok _) law on = (law, on refl law)
needs_at t n part P (Ok _) rest (Err e) law on = inr (law, on refl law)
needs_at t n part P (Err e) rest w law on = inl (refl, refl, law)

joined : (t : Stage) (u v : Verdict) (w : ChainVerdict) → first_fault (placed t u) (first_fault (placed t v) w) ≡ first_fault (placed t (first_of u v)) w
joined t (Ok _) v w = refl
joined t (Err e) v w = refl

pub joined_chains : (u v w : ChainVerdict) → first_fault u (first_fault v w) ≡ first_fault (first_fault u v) w
joined_chains (Ok _) v w = refl
joined_chains (Err e) v w = refl

sizes_law : (ts : List Stage) (rest : ChainVerdict → Type 0) (w : ChainVerdict) → rest w → SizesFit ts rest (first_fault (sizing ts) w)
sizes_law [] rest w law = law
sizes_law (t ∷ ts) rest w law =
    subst (SizesFit (t ∷ ts) rest) (joined_chains (placed t (layout_of t.choice).measuring) (sizing ts) w) (needs_at t 4 0 (SizeFits t.choice) (layout_of t.choice).measuring (SizesFit ts rest) (first_fault (sizing ts) w) (size_says t.choice) (λ is fits. sizes_law ts rest w law))

-- a part has room in what is left behind those before it
room_says : (form : Form) (k n took left m : ℕ) → took + left ≡ m → Says form 5 k (took + n ≤ m) (located form k (room_check n left))
room_says form k n took left m is =
    located_says form 5 k (took + n ≤ m) (room_check n left)
    (cond_both (leb n left) (Ok tt) (Err Room) (CheckIs 5 (took + n ≤ m))
    (λ fits. omega (arith, leb-true n left fits, is))
    (λ short. (refl, λ h. omega (arith, leb-false n left short, is, h))))

parts_law : (t : Stage) (k : ℕ) (ns : List ℕ) (took left m : ℕ) (rest : ChainVerdict → Type 0) (w : ChainVerdict) → took + left ≡ m
    → (rooms_in (layout_of t.choice).form k ns left ≡ Ok tt → rest w) → PartsFit t k ns took m rest (first_fault (placed t (rooms_in (layout_of t.choice).form k ns left)) w)
parts_law t k [] took left m rest w is on = on refl
parts_law t k (n ∷ ns) took left m rest w is on =
    let part = located (layout_of t.choice).form k (room_check n left) in
    let others = rooms_in (layout_of t.choice).form (suc k) ns (left - n) in
    subst (PartsFit t k (n ∷ ns) took m rest) (joined t part others w)
    (needs_at t 5 k (took + n ≤ m) part (PartsFit t (suc k) ns (took + n) m rest) (first_fault (placed t others) w)
    (room_says (layout_of t.choice).form k n took left m is)
    (λ ok fits. parts_law t (suc k) ns (took + n) (left - n) m rest w (omega (arith, room_fits (layout_of t.choice).form k n left ok)) (λ all. on (ap (λ v. first_of v others) ok ∙ all))))

width_sum : (x : Choice) (a b l r m n : ℕ) → a + l ≡ m → b + r ≡ n → by_width x a b + by_width x l r ≡ by_width x m n
width_sum choices.Plain a b l r m n ia ib = ia
width_sum choices.List a b l r m n ia ib = ib
width_sum (choices.Zombit β) a b l r m n ia ib = ia
width_sum choices.Pioneer a b l r m n ia ib = ia

rooms_law : (ts : List Stage) (m n a b l r : ℕ) → a + l ≡ m → b + r ≡ n → RoomsFit ts m n a b (rooming ts l r)
rooms_law [] m n a b l r ia ib = tt
rooms_law (t ∷ ts) m n a b l r ia ib =
    let x = t.choice in
    let s = t.set in
    let told = told_of x s in
    let rest = RoomsFit ts m n (a + length (bytes_of x s)) (b + length (numbers_of x s)) in
    let behind = rooming ts (l - bytes_told told) (r - numbers_told told) in
    let parts = lengths (layout_of x) s in
    let same : rooms_told told l r ≡ rooms_in (layout_of x).form 1 parts (by_width x l r) =
    λ i. rooms_in (layout_of ((tells_layout x s).0 i)).form 1 ((tells_layout x s).2 i) (by_width ((tells_layout x s).0 i) l r) in
    subst (λ v. PartsFit t 1 parts (by_width x a b) (by_width x m n) rest (first_fault (placed t v) behind)) (sym same)
    (parts_law t 1 parts (by_width x a b) (by_width x l r) (by_width x m n) rest behind (width_sum x a b l r m n ia ib)
    (λ ok. let fits = told_within told l r (same ∙ ok) in
    rooms_law ts m n (a + length (bytes_of x s)) (b + length (numbers_of x s)) (l - bytes_told told) (r - numbers_told told)
    (omega (arith, told_bytes x s, fits.0)) (omega (arith, told_numbers x s, fits.1))))

pub judging_law : (ts : List Stage) (m n : ℕ) (v : ChainVerdict) → v ≡ judging ts m n → JudgingIs ts m n v
judging_law ts m n v is = subst (JudgingIs ts m n) (sym is) (sizes_law ts (RoomsFit ts m n 0 0) (rooming ts m n) (rooms_law ts m n 0 0 m n (omega arith) (omega arith)))
