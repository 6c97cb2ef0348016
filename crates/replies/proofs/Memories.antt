-- The memory of a sheet, written number by number.
use Rattle.std.proofs.Common.{◌≡◌, ◌<◌, ◌+◌, ℕ, zero, suc, List, [], ◌∷◌, ◌++◌, length, get_or, take, refl, ap, ◌∙◌, sym, add-one, arith}
use Rattle.std.specs.Prelude.{decimal}
use Rattle.std.proofs.lemmas.List.{append-nil, append_assoc}
use Rattle.replies.specs.Sheets.{memory_text}

-- none, and one number more
pub memory_text_none : memory_text [] ≡ []
unfolding memory_text
memory_text_none = refl

more : (ns : List ℕ) (i : ℕ) → i < length ns → memory_text (take (suc i) ns) ≡ memory_text (take i ns) ++ 32 ∷ decimal (get_or ns i 0)
unfolding memory_text
more [] i within = absurd (omega arith)
more (n ∷ ns) zero within = ap (λ t. 32 ∷ t) (append-nil (decimal n))
more (n ∷ ns) (suc i) within =
    ap (λ t. 32 ∷ (decimal n ++ t)) (more ns i (omega arith))
    ∙ ap (λ t. 32 ∷ t) (sym (append_assoc (decimal n) (memory_text (take i ns)) (32 ∷ decimal (get_or ns i 0))))

pub memory_text_more : (ns : List ℕ) (i : ℕ) → i < length ns
    → memory_text (take (i + 1) ns) ≡ memory_text (take i ns) ++ 32 ∷ decimal (get_or ns i 0)
memory_text_more ns i within = rw add-one (more ns i within)
