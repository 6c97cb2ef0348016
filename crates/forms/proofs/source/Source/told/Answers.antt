-- What is left to show of `Source::told`.
use Rattle.std.proofs.Common.{ℕ, List, [], slice_index_or, sym, subst}
use Rattle.faults.specs.Checks.{Verdict}
use Rattle.zombit.specs.Opening as zombit
use Rattle.forms.specs.Opening.{OpeningIs}
use Rattle.forms.specs.Sources.{parts_given}
use Rattle.forms.specs.declared.source.Source.TheVariants.{Zombit}
use Rattle.forms.proofs.source.Source.told.Goals as goal

-- the law of an answer for the zombit form, by what a source has
abbrev Law : ℕ → ℕ → List (List ℕ) → Verdict → Type 0
Law u β parts = zombit.OpeningIs u β (slice_index_or parts 0 []) (slice_index_or parts 1 []) (slice_index_or parts 2 [])

pub returns-in-Zombit-clause-law : goal.returns-in-Zombit-clause-law
returns-in-Zombit-clause-law c = λ v due.
    let t = c.in-Zombit.told in
    let s = c.zombit_source.result in
    let parts = parts_given (Zombit s) in
    let by_last = subst (λ u. Law u s.size parts v) c.zombit_source.ensures.last due in
    let by_size = subst (λ β. Law t.last β parts v) c.zombit_source.ensures.size by_last in
    let by_parts = subst (λ ps. Law t.last t.size ps v) c.zombit_source.ensures.parts by_size in
    subst (λ told. OpeningIs told c.args.bytes.now c.args.numbers.now v) (sym c.in-Zombit.is) by_parts
