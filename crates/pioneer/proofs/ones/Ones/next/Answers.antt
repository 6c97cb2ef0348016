-- What is left to show of `Ones::next`.
use Rattle.std.proofs.Common.{◌*◌, length, ◌∙◌, arith}
use Rattle.bits.specs.Bits.{bit_at}
use Rattle.bits.proofs.Bytes.{bit_past}
use Rattle.pioneer.proofs.Taking.{Ready, ready_same, ready_here, ready_later, later_none, taken, at_within, next_found}
use Rattle.pioneer.proofs.ones.Ones.next.Goals as goal
use Rattle.pioneer.proofs.ones.Ones.next.Goals.{then-self-ne0, else-self-ne0+in_ok-word}

pub returns-in_err-word-clause-found : goal.returns-in_err-word-clause-found
returns-in_err-word-clause-found c =
    let s = c.args.self.now in
    c.from_residual.ensures ∙ later_none _ s.place s.word s.left _ s.passed.0 c.if-self-ne0.false s.held c.in_err-word.ensures

pub invariant_of-self : goal.invariant_of-self
invariant_of-self c =
    let s = c.args.self.now in
    let f = bit_at s.bytes.now in
    let n = 8 * length s.bytes.now in
    let ready : Ready f s.place c.if-self-ne0.word = elim c.if-self-ne0.branch [
      | then-self-ne0 w ↦ ready_same f s.place _ _ w.word-is (ready_here f s.place s.word s.left s.passed.0 w.if-self-ne0.true s.held)
      | else-self-ne0+in_ok-word w ↦ ready_same f s.place _ _ w.word-is (ready_later f s.place s.word s.left n _ s.passed.0 s.passed.1 w.if-self-ne0.false s.held w.in_ok-word.ensures)
    ] in
    let next = next_found f _ s.place _ ready.held ready.some n ready.near (λ i l. bit_past s.bytes.now i l) in
    record {
      few = s.few;
      passed = (omega arith, omega (arith, at_within f _ s.place _ ready.held ready.some));
      within = next.0;
      held = taken f _ s.place _ ready.held ready.some;
    }

pub returns-clause-found : goal.returns-clause-found
returns-clause-found c =
    let s = c.args.self.now in
    let f = bit_at s.bytes.now in
    let n = 8 * length s.bytes.now in
    let ready : Ready f s.place c.if-self-ne0.word = elim c.if-self-ne0.branch [
      | then-self-ne0 w ↦ ready_same f s.place _ _ w.word-is (ready_here f s.place s.word s.left s.passed.0 w.if-self-ne0.true s.held)
      | else-self-ne0+in_ok-word w ↦ ready_same f s.place _ _ w.word-is (ready_later f s.place s.word s.left n _ s.passed.0 s.passed.1 w.if-self-ne0.false s.held w.in_ok-word.ensures)
    ] in
    (next_found f _ s.place _ ready.held ready.some n ready.near (λ i l. bit_past s.bytes.now i l)).1
