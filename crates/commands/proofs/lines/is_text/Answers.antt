-- The test and the library agree.
use Rattle.std.proofs.Common.{◌≡◌, ℕ, List, Bool, true, false, MatchResult, Result, Ok, Err, refl, sym, ◌∙◌}
use Rattle.std.specs.Prelude.{is_ok}
use Rattle.std.specs.Str.{is_utf8, IsUtf8}
use Rattle.std.proofs.lemmas.Str.{IsUtf8-from_is_utf8, is_utf8-from_IsUtf8}
use Rattle.commands.proofs.lines.is_text.Goals as goal

no_text : (line : List ℕ) (b : Bool) → is_utf8 line ≡ b → ¬ (IsUtf8 line) → false ≡ b
no_text line true e h = absurd (h (IsUtf8-from_is_utf8 line e))
no_text line false e h = refl

tested : {T E : Type 0} (P : T → Type 0) (Q : E → Type 0) (line : List ℕ) (r : Result T E)
    → MatchResult r (λ s. P s × IsUtf8 line) (λ e. ¬ (IsUtf8 line) × Q e) → is_ok r ≡ is_utf8 line
tested P Q line (Ok s) h = sym (is_utf8-from_IsUtf8 line h.1)
tested P Q line (Err e) h = no_text line (is_utf8 line) refl h.0

pub returns : goal.returns
returns c = c.is_ok.ensures.value ∙ tested _ _ c.args.line.now c.from_utf8.result c.from_utf8.ensures.cases
