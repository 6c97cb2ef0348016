-- What is claimed of two readers is claimed of what is equal.
use Rattle.std.proofs.Common.{◌≡◌, ℕ, Bool, List, ◌++◌, length, take, sym, ap, subst, ◌∙◌}
use lib.Seq.{take-append_seam}
use Rattle.replay.specs.declared.calls.Call.{Call}
use Rattle.replay.specs.Plays.{Seen}
use Rattle.readers.specs.Claim.{TwoReaders}

pub alike : (f c f' c' : List Bool) (calls calls' : List Call) (m m' a : List ℕ) (x x' y y' : Seen)
    → m ≡ a → m' ≡ a → x ≡ y → x' ≡ y' → TwoReaders f c f' c' calls m m' calls' x x' → TwoReaders f c f' c' calls a a calls' y y'
alike f c f' c' calls calls' m m' a x x' y y' p p' q q' claim = subst (λ (t : Type 0). t) (λ i. TwoReaders f c f' c' calls (p i) (p' i) calls' (q i) (q' i)) claim

-- the front of a memory is what it was written with
pub front : (n : ℕ) (new behind : List ℕ) → length new ≡ n → new ≡ take n (new ++ behind)
front n new behind e = sym (take-append_seam new behind) ∙ ap (λ (k : ℕ). take k (new ++ behind)) e
