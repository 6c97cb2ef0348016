-- What is left to show of `whole_word`.
use Rattle.std.proofs.Common.{◌≡◌, ℕ, zero, suc, ◌+◌, ◌-◌, ◌/◌, ◌<◌, ◌≤◌, List, [], length, length-drop, length-take, get_or, take, drop, refl, ap, ◌∙◌, arith}
use Rattle.std.specs.Simd.{first_chunks}
use Rattle.std.proofs.lemmas.List.{get_or-take, get_or-drop}
use Rattle.bits.proofs.Bytes.{eight_held, low_first}
use Rattle.bits.proofs.words.whole_word.Goals as goal

first_chunk : (n m : ℕ) (xs : List ℕ) → 0 < m → get_or (first_chunks n m xs) 0 [] ≡ take n xs
first_chunk n zero xs l = absurd (omega arith)
first_chunk n (suc m) xs l = refl

-- byte k of the first eight from j on
byte_in : (bs : List ℕ) (j k : ℕ) → k < 8 → j + 8 ≤ length bs
    → get_or (get_or (first_chunks 8 (length (take (length bs - j) (drop j bs)) / 8) (take (length bs - j) (drop j bs))) 0 []) k 0 ≡ get_or bs (j + k) 0
byte_in bs j k l within =
    let rest = take (length bs - j) (drop j bs) in
    let some : 0 < length rest / 8 = omega (arith, length-take (length bs - j) (drop j bs), length-drop j bs) in
    ap (λ xs. get_or xs k 0) (first_chunk 8 (length rest / 8) rest some) ∙ get_or-take 8 rest k 0 l ∙ get_or-take (length bs - j) (drop j bs) k 0 (omega arith) ∙ get_or-drop j bs k 0

pub returns : goal.returns
unfolding low_first
returns c =
    let bs = c.args.bytes.now in
    let eights = c.as_chunks.result.0.now in
    eight_held bs (get_or eights 0 []) c.args.j _ (λ i. (c.type_inv.bytes i).fits)
    (λ k l. ap (λ (xs : List (List ℕ)). get_or (get_or xs 0 []) k 0) c.as_chunks.ensures.front ∙ byte_in bs c.args.j k l c.requires.within)
    (omega (arith, c.from_le_bytes.ensures))
