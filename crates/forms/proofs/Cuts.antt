-- What is written to the pieces of a memory, and what is cut from the front where parts were written.
use Rattle.std.proofs.Common.{◌≡◌, ℕ, List, [], ◌∷◌, ◌++◌, map, length, take, drop, Ok, Err, refl, sym, ap, ◌∙◌, arith, append_assoc, take-append-drop, drop-drop}
use Rattle.std.specs.List.{concat}
use Rattle.std.proofs.Math.Seq.{take-append_seam, drop-append_seam, take-length}
use Rattle.std.proofs.lemmas.List.{length-take, length-append, drop_all, append-nil}
use Rattle.faults.specs.Checks.{Verdict}
use Rattle.filling.specs.Rooms.{wrote, wrote_all, fronts}
use Rattle.sets.specs.Lists.{over}
use Rattle.forms.specs.Cutting.{cuts}

-- what is cut from the front where parts were written is the parts
pub cuts_written : (parts : List (List ℕ)) (m : List ℕ) → cuts (map length parts) (concat parts ++ m) ≡ parts
cuts_written [] m = refl
cuts_written (p ∷ parts) m =
    let e = append_assoc p (concat parts) m in
    let one = ap (take (length p)) e ∙ take-append_seam p (concat parts ++ m) in
    let rest = ap (drop (length p)) e ∙ drop-append_seam p (concat parts ++ m) in
    let more = ap (cuts (map length parts)) rest ∙ cuts_written parts m in
    λ i. one i ∷ more i

-- a part written to its piece is all of it
over_piece : (p m : List ℕ) → over p (take (length p) m) ≡ p
over_piece p m = ap (λ (xs : List ℕ). p ++ xs) (drop_all (length p) (take (length p) m) (omega (arith, length-take (length p) m))) ∙ append-nil p

pub cuts_filled : (parts : List (List ℕ)) (m : List ℕ) → wrote_all (Ok tt) parts (cuts (map length parts) m) ≡ parts
cuts_filled [] m = refl
cuts_filled (p ∷ parts) m = λ i. over_piece p m i ∷ cuts_filled parts (drop (length p) m) i

pub fronts_all : (parts : List (List ℕ)) → fronts (map length parts) parts ≡ parts
fronts_all [] = refl
fronts_all (p ∷ parts) = λ i. take-length p i ∷ fronts_all parts i

-- one part written to its piece, and others behind it, are all of them written to the memory
pub wrote_more : (v : Verdict) (p q m : List ℕ) → wrote v p (take (length p) m) ++ wrote v q (drop (length p) m) ≡ wrote v (p ++ q) m
wrote_more (Ok _) p q m =
    let behind = drop-drop (length q) (length p) m ∙ ap (λ (k : ℕ). drop k m) (sym (length-append p q)) in
    ap (λ (xs : List ℕ). xs ++ over q (drop (length p) m)) (over_piece p m) ∙ ap (λ (xs : List ℕ). p ++ (q ++ xs)) behind ∙ sym (append_assoc p q _)
wrote_more (Err e) p q m = take-append-drop (length p) m

-- two parts, and three
pub wrote_two : (v : Verdict) (p q m : List ℕ) → wrote v p (take (length p) m) ++ wrote v q (drop (length p) m) ≡ wrote v (p ++ (q ++ [])) m
wrote_two v p q m = wrote_more v p q m ∙ ap (λ (xs : List ℕ). wrote v (p ++ xs) m) (sym (append-nil q))

pub wrote_three : (v : Verdict) (p q r m : List ℕ) → wrote v p (take (length p) m) ++ (wrote v q (take (length q) (drop (length p) m)) ++ wrote v r (drop (length q) (drop (length p) m))) ≡ wrote v (p ++ (q ++ (r ++ []))) m
wrote_three v p q r m = ap (λ (xs : List ℕ). wrote v p (take (length p) m) ++ xs) (wrote_two v q r (drop (length p) m)) ∙ wrote_more v p (q ++ (r ++ [])) m
