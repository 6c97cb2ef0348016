-- What is left to show of `read_refilled`.
use Rattle.std.proofs.Common.{length, take, sym, ap, subst, ◌∙◌, rules}
use Rattle.chains.specs.Sources.{read_as}
use Rattle.chains.proofs.Accepted.{accepted}
use Rattle.readers.specs.Refilled.{Refilled}
use Rattle.readers.proofs.Alike.{alike, front}
use Rattle.readers.proofs.Through.{through}
use Rattle.replay.specs.Views.{first_seen, second_seen}
use Rattle.readers.proofs.refilled.read_refilled.Goals as goal

pub returns-clause-claim : goal.returns-clause-claim
returns-clause-claim g c =
    let plan = c.args.plan in
    let f = g.F.Walking.meant c.args.free in
    let k = g.C.Walking.meant c.args.class in
    let bytes = c.args.bytes.now in
    let numbers = c.args.numbers.now in
    let memory = c.args.memory.now in
    let size = c.min-room.ensures in
    let copied = c.copy_from_slice.new.self in
    let new_bytes = c.refill_pair.new.bytes in
    let new_numbers = c.refill_pair.new.numbers in
    let f' = read_as g.F.Walking.meant c.latest-late_free.result in
    let k' = read_as g.C.Walking.meant c.latest-late_class.result in
    let e = c.in_ok-free_last.ensures in
    let ok = accepted f k plan (length bytes) (length numbers) e.answer in
    let went = through plan f k bytes numbers new_bytes new_numbers (g.met.F.Walking.sized c.args.free) (g.met.C.Walking.sized c.args.class) ok e.bytes e.numbers in
    let late = subst (λ t. Refilled plan f k t k bytes numbers new_bytes new_numbers) (sym c.latest-late_free.ensures.means) went in (
      f',
      k',
      subst (λ t. Refilled plan f k f' t bytes numbers new_bytes new_numbers) (sym c.latest-late_class.ensures.means) late,
      alike f k f' k' _ _ _ _ _ _ _ _ _
          (ap (λ r. take r memory) size)
          (sym (front c.min-room.result copied _ (search rules)) ∙ c.copy_from_slice.ensures.after ∙ ap (λ r. take r memory) size)
          (ap (λ w. first_seen c.read_both.new.exchanges w c.read_both.result.0) (front _ c.read_both.new.memory _ (search rules)))
          (ap (λ w. second_seen c.read_both.new.exchanges w c.read_both.result.1) (front _ c.read_both.new.late_memory _ (search rules)))
          c.read_both.ensures,
    )
