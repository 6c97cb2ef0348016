-- The first word and what is behind it.
use Rattle.std.proofs.Common.{arith, sym, ◌≡◌, ◌∙◌, ◌<◌, length, not}
use Rattle.std.proofs.lemmas.Bool.{eqb-false, eqb-true}
use Rattle.std.proofs.lemmas.List.Sums.{prefix_len-le-length}
use Rattle.notation.specs.Words.{is_blank}
use Rattle.notation.proofs.Wording.{words_of-none, words_of-some, IsCut}
use Rattle.notation.proofs.words.Words.next_word.Goals as goal
use Rattle.notation.proofs.words.Words.next_word.Goals.{then-is_empty, else-is_empty}

pub split_at-requires : goal.split_at-requires
split_at-requires c = rw c.first_blank.ensures (prefix_len-le-length (λ b. not (is_blank b)) c.trim_ascii_start-line.result.now)

pub returns : goal.returns
returns c =
    let cut : IsCut c.self.inside.rest.now c.trim_ascii_start-line.result.now c.split_at.result.0.now c.split_at.result.1.now = record {
      start = c.trim_ascii_start-line.ensures.value;
      front = rw c.first_blank.ensures at c.split_at.ensures.front;
      back = rw c.first_blank.ensures at c.split_at.ensures.back;
    } in
    elim c.if-is_empty.branch [
      | then-is_empty w ↦
          let none : length c.split_at.result.0.now ≡ 0 = eqb-true _ _ (sym c.is_empty.ensures ∙ w.if-is_empty.true) in
          let parts = words_of-none cut none in
          rw w.result-is (sym c.self.view_is ∙ parts.0, parts.1)
      | else-is_empty w ↦
          let some : 0 < length c.split_at.result.0.now = omega (arith, eqb-false _ _ (sym c.is_empty.ensures ∙ w.if-is_empty.false)) in
          rw w.result-is (sym c.self.view_is ∙ words_of-some cut some)
    ]
