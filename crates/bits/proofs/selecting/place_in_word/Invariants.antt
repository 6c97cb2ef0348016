-- What the loop of `place_in_word` keeps: of the ones of w those from some place on are left.
use Rattle.std.proofs.Common.{◌≡◌, ℕ, ◌+◌, ◌%◌, ◌^◌}
use lib.Count.{ones}
use Rattle.bits.proofs.Lowest.{left}
use Rattle.bits.proofs.selecting.place_in_word.Given as goal

abbrev pub invariant-loop : goal.invariant-loop
invariant-loop l = (c : ℕ) × ((l.left ≡ left l.w c) × (ones (l.w % 2 ^ c) + 1 ≡ l.counter))
