-- Whatever forms a set goes through, what is opened at the end is the set.
use Rattle.std.proofs.Common.{◌≡◌, ℕ, suc, Bool, List, [], ◌∷◌, length, drop, map, Ok, refl, sym, ap, subst, ◌∙◌}
use Rattle.std.proofs.Math.Seq.{take-append_seam}
use Rattle.faults.specs.declared.fault.Form.{Form}
use Rattle.sets.specs.Lists.{Each}
use Rattle.sets.specs.Sets.{Sized}
use Rattle.filling.specs.Chains.{Step, Chain}
use Rattle.filling.specs.Layouts.{Layout, lengths, Keeps}
use Rattle.filling.specs.Rooms.{rooms_from, wrote_all, fronts}
use Rattle.forms.proofs.Laid.{both_ok}

-- where all parts had room, the fronts of the memories are the parts
fronts_written : (form : Form) (k : ℕ) (parts before : List (List ℕ)) → rooms_from form k parts before ≡ Ok tt → fronts (map length parts) (wrote_all (Ok tt) parts before) ≡ parts
fronts_written form k [] before h = refl
fronts_written form k (p ∷ parts) [] h = cc
fronts_written form k (p ∷ parts) (m ∷ before) h =
    let others = fronts_written form (suc k) parts before (both_ok _ _ h).1 in
    λ i. take-append_seam p (drop (length p) m) i ∷ others i

-- what a form that keeps its sets opens, where a set was filled, is the set
step_keeps : (x : Layout) (s t : List Bool) → Keeps x → Sized s → Step x s t → t ≡ s
step_keeps x s t keeps sized step =
    let wrote : step.after ≡ wrote_all (Ok tt) (x.parts s) step.before = step.wrote ∙ ap (λ v. wrote_all v (x.parts s) step.before) step.filled in
    let parts = ap (fronts (lengths x s)) wrote ∙ fronts_written x.form 1 (x.parts s) step.before step.filled in
    step.meant ∙ ap (x.decoding (x.numbers s)) parts ∙ (keeps step.measured s sized).1

pub chained : (xs : List Layout) (s t : List Bool) → Sized s → Each Keeps xs → Chain xs s t → t ≡ s
chained [] s t sized keeps chain = chain
chained (x ∷ xs) s t sized keeps chain =
    let same = step_keeps x s chain.0 keeps.0 sized chain.1.0 in
    chained xs chain.0 t (subst Sized (sym same) sized) keeps.1 chain.1.1 ∙ same
