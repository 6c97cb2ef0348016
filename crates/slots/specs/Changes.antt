-- What a command that changes a slot is answered, and what the slots hold then: after a refusal, what they held before.
use Rattle.std.specs.Prelude.{ℕ, Result, Ok, Err, length}
use Rattle.commands.specs.Said.{Written}
use Rattle.commands.specs.declared.command.Slot.{Slot}
use Rattle.faults.specs.Bays.{bays_check}
use Rattle.faults.specs.Checks.{Verdict}
use Rattle.forms.specs.declared.choice.Choice.{Choice}
use Rattle.forms.specs.Choices.{layout_of}
use Rattle.forms.specs.Opening.{opening_told}
use Rattle.forms.specs.Telling.{choice_told}
use Rattle.layers.specs.Layers.{turned, level}
use Rattle.opening.specs.Pairs.{pairing}
use Rattle.replies.specs.declared.reply.Reply.{Reply}
use Rattle.replies.specs.declared.reply.Reply.TheVariants as replies
use Rattle.slots.specs.Held.{Held, held_in, put, set_in, filled}

-- the reply, and what is held
pub record Changed : Type 0 where
  pub reply : Reply
  pub held : Held

-- unless there was a refusal, which says how it is told
abbrev pub unless : {E : Type 0} → (E → Reply) → Result (Unit {0}) E → Held → Held → Changed
unless told (Ok _) before after = record { reply = replies.Done; held = after }
unless told (Err e) before after = record { reply = told e; held = before }

abbrev pub opening_of : Written → Verdict
opening_of x = opening_told x.told x.bytes x.numbers

abbrev pub opened : Slot → Written → Held → Changed
opened slot x h = unless replies.Faulty (opening_of x) h (put slot x h)

abbrev pub both_opened : Written → Written → Held → Changed
both_opened free class h = unless replies.FaultyPair (pairing (opening_of free) (opening_of class)) h (record { free = free; class = class })

abbrev pub refilled : Slot → Choice → Held → Changed
refilled slot x h = unless replies.Faulty (layout_of x).measuring h (put slot (filled x (set_in slot h)) h)

-- a layer keeps the form and the block size
abbrev pub turned_over : Slot → Held → Changed
turned_over slot h = record {
  reply = replies.Done;
  held = put slot (filled (choice_told (held_in slot h).told) (turned (set_in slot h))) h;
}

abbrev pub levelled : Slot → ℕ → ℕ → Held → Changed
levelled slot a b h = unless replies.Refused (bays_check a b (length (set_in slot h))) h
    (put slot (filled (choice_told (held_in slot h).told) (level a b (set_in slot h))) h)
