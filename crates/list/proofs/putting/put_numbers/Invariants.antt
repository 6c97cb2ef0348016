-- What the loop of `put_numbers` keeps.
use Rattle.std.proofs.Common.{◌≡◌, ◌*◌, length}
use Rattle.sets.specs.Packing.{pack}
use Rattle.list.proofs.Put.{put_to}
use Rattle.list.proofs.putting.put_numbers.Given as goal

abbrev pub invariant-loop-number : goal.invariant-loop-number
invariant-loop-number l =
    let n = 8 * length l.fn.out in
    (length l.out ≡ length l.fn.out) × (l.out ≡ pack n (put_to l.numbers l.before n l.number-index))
