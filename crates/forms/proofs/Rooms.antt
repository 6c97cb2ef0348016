-- Which parts, laid one behind the other, have room.
use Rattle.std.proofs.Common.{◌≡◌, ℕ, suc, ◌+◌, ◌-◌, ◌≤◌, leb, List, [], ◌∷◌, map, length, take, drop, Ok, Err, refl, sym, ap, ◌∙◌, arith, leb-true, leb-false, length-drop}
use Rattle.std.specs.List.{concat, sum}
use Rattle.std.proofs.lemmas.Bool.{cond_both}
use Rattle.std.proofs.lemmas.Grind.{common_steps}
use Rattle.std.proofs.lemmas.List.{length-take, length-append}
use Rattle.std.proofs.lemmas.List.Sums.{sum_by-cons}
use Rattle.faults.specs.Checks.{CheckIs, located, first_of}
use Rattle.faults.specs.declared.fault.Flaw.TheVariants.{Room}
use Rattle.faults.specs.declared.fault.Form.{Form}
use Rattle.faults.proofs.Steps.{then, passed}
use Rattle.filling.specs.Rooms.{room_check, rooms_from}
use Rattle.forms.specs.Cutting.{cuts, rooms_in, RoomsIn}

-- a piece has room exactly if the memory that it is cut from has
room_cut : (n : ℕ) (m : List ℕ) → room_check n (length (take n m)) ≡ room_check n (length m)
room_cut n m = grind (arith, common_steps, length-take n m)

-- filling the pieces of a memory is refused where the memory has no room for a part behind the others
pub rooms_cut : (form : Form) (k : ℕ) (parts : List (List ℕ)) (m : List ℕ) → rooms_from form k parts (cuts (map length parts) m) ≡ rooms_in form k (map length parts) (length m)
rooms_cut form k [] m = refl
rooms_cut form k (p ∷ parts) m =
    let rest = rooms_cut form (suc k) parts (drop (length p) m) ∙ ap (rooms_in form (suc k) (map length parts)) (length-drop (length p) m) in
    λ i. first_of (located form k (room_cut (length p) m i)) (rest i)

room_law : (took n m rest : ℕ) → took + rest ≡ m → CheckIs 5 (took + n ≤ m) (room_check n rest)
room_law took n m rest e =
    cond_both (leb n rest) (Ok tt) (Err Room) (CheckIs 5 (took + n ≤ m))
    (λ h. omega (arith, leb-true n rest h))
    (λ h. (refl, λ l. omega (arith, leb-false n rest h)))

pub rooms_law : (form : Form) (k took : ℕ) (lengths : List ℕ) (m rest : ℕ) → took + rest ≡ m → RoomsIn form k took lengths m (rooms_in form k lengths rest)
rooms_law form k took [] m rest e = tt
rooms_law form k took (n ∷ lengths) m rest e =
    then form 5 k (took + n ≤ m) (room_check n rest) (RoomsIn form (suc k) (took + n) lengths m) (rooms_in form (suc k) lengths (rest - n))
    (room_law took n m rest e)
    (λ h. rooms_law form (suc k) (took + n) lengths m (rest - n) (omega arith))

-- what is long enough for all parts has room for each
pub rooms_fit : (form : Form) (k : ℕ) (lengths : List ℕ) (m : ℕ) → sum lengths ≤ m → rooms_in form k lengths m ≡ Ok tt
rooms_fit form k [] m h = refl
rooms_fit form k (n ∷ lengths) m h =
    let all = sum_by-cons (λ (y : ℕ). y) n lengths in
    let one = passed 5 (0 + n ≤ m) (room_check n m) (room_law 0 n m m (omega arith)) (omega (arith, all)) in
    (λ i. first_of (located form k (one i)) (rooms_in form (suc k) lengths (m - n))) ∙ rooms_fit form (suc k) lengths (m - n) (omega (arith, all))

pub lengths_sum : (parts : List (List ℕ)) → sum (map length parts) ≡ length (concat parts)
lengths_sum [] = refl
lengths_sum (p ∷ parts) =
    sum_by-cons (λ (y : ℕ). y) (length p) (map length parts)
    ∙ ap (λ (n : ℕ). length p + n) (lengths_sum parts)
    ∙ sym (length-append p (concat parts))

-- the last part may have all that is left
pub rooms_three : (form : Form) (p q r m : List ℕ)
    → rooms_from form 1 (p ∷ q ∷ r ∷ []) (take (length p) m ∷ take (length q) (drop (length p) m) ∷ drop (length q) (drop (length p) m) ∷ [])
    ≡ rooms_from form 1 (p ∷ q ∷ r ∷ []) (cuts (map length (p ∷ q ∷ r ∷ [])) m)
rooms_three form p q r m =
    let last = room_cut (length r) (drop (length q) (drop (length p) m)) in
    λ i. first_of (located form 1 (room_check (length p) (length (take (length p) m))))
    (first_of (located form 2 (room_check (length q) (length (take (length q) (drop (length p) m))))) (first_of (located form 3 (sym last i)) (Ok tt)))
