-- What is left to show of `of_sort`.
use Rattle.std.proofs.Common.{◌-◌, sym, subst}
use Rattle.sets.specs.declared.Sort.{Sort}
use Rattle.sets.specs.Made.{of_sort}
use Rattle.bits.specs.Words.{Holds}
use Rattle.bits.proofs.Held.{others_held}
use Rattle.bits.proofs.words.of_sort.Goals as goal

pub returns-in-Others : goal.returns-in-Others
returns-in-Others c f p h = subst (λ (s : Sort). Holds (of_sort s f) p 64 (18446744073709551615 - c.args.w)) (sym c.in-Others.is) (others_held f p 64 c.args.w h)
