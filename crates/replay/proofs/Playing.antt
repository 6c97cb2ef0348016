-- A list of calls that one of two readers plays, one call at a time.
use Rattle.std.proofs.Common.{◌≡◌, ℕ, suc, ◌+◌, ◌-◌, ◌<◌, ◌≤◌, min, Bool, List, [], ◌∷◌, ◌++◌, length, take, drop, set, get_or, map, sym, refl, ap, ◌∙◌, append_assoc, add-one, arith, length-append, length-drop, length-take, take-append-drop, drop-drop, drop-cons}
use Rattle.std.proofs.Math.Seq.{take-append_seam, drop-append_seam, map-set_same, take_all}
use Rattle.std.proofs.lemmas.List.{append-nil, drop_all, drop_min, drop-set-lt, map-append}
use Rattle.sets.proofs.Memory.{front_more}
use Rattle.round.specs.declared.state.Report.{Report}
use Rattle.round.proofs.Taking.{sheet_stops}
use Rattle.round.specs.Sheets.{sheet_from}
use Rattle.replay.specs.declared.calls.Answer.{Answer}
use Rattle.replay.specs.declared.calls.Call.{Call}
use Rattle.replay.specs.declared.calls.Call.TheVariants as call
use Rattle.replay.specs.declared.calls.Exchange.{Exchange}
use Rattle.replay.specs.Plays.{Outcome, Seen, step, room, Played, play, windows, answers_of, seen_of}
use Rattle.replay.specs.Views.{calls_of}

-- answers before those of r, and numbers before its memory
abbrev onto : List Answer → List ℕ → Seen → Seen
onto answers numbers r = record { answers = answers ++ r.answers; memory = numbers ++ r.memory; report = r.report }

module _ (f c : List Bool) where
  -- a window keeps its length
  same_size : (s : Report) (x : Call) (window : List ℕ) → length (step f c s x window).window ≡ length window
  same_size s (call.Count a b) window = refl
  same_size s (call.Nearest p) window = refl
  same_size s (call.Sign n) window = refl
  same_size s (call.Pick k) window = refl
  same_size s (call.Go q) window = refl
  same_size s call.Next window = refl
  same_size s (call.Sheet k) window =
      let page = sheet_from f c (length window) s.place in
      let fits = (sheet_stops f c (length window) s.place).fits in
      length-append page.bays (drop (length page.bays) window) ∙ omega (arith, length-drop (length page.bays) window)

  play_none : (s : Report) (memory : List ℕ) → play f c s [] memory ≡ record { turns = []; rest = memory; report = s }
  unfolding play
  play_none s memory = refl

  play_more : (s : Report) (x : Call) (calls : List Call) (memory : List ℕ) (answers : List Answer) (numbers : List ℕ) → let t = step f c s x (take (room x) memory) in onto answers numbers (seen_of (play f c s (x ∷ calls) memory)) ≡ onto (answers ++ (t.answer ∷ [])) (numbers ++ t.window) (seen_of (play f c t.state calls (drop (room x) memory)))
  unfolding play
  play_more s x calls memory answers numbers =
      let t = step f c s x (take (room x) memory) in
      let r = play f c t.state calls (drop (room x) memory) in
      let after : numbers ++ ((t.window ++ windows r.turns) ++ r.rest) ≡ (numbers ++ t.window) ++ (windows r.turns ++ r.rest) =
      ap (λ (xs : List ℕ). numbers ++ xs) (append_assoc t.window (windows r.turns) r.rest) ∙ sym (append_assoc numbers t.window (windows r.turns ++ r.rest)) in
      λ i. record { answers = sym (append_assoc answers (t.answer ∷ []) (answers_of r.turns)) i; memory = after i; report = r.report }

-- the calls before the i-th are played, by the reader with these answers: it stands at s, and has come to the place `at` of its memory
pub record Going (f c : List Bool) (answer : Exchange → Answer) (s₀ : Report) (exchanges₀ : List Exchange) (memory₀ : List ℕ) (i at : ℕ) (s : Report) (memory : List ℕ) (exchanges : List Exchange) : Type 0 where
  pub calls : calls_of exchanges ≡ calls_of exchanges₀
  pub within : at ≤ length memory
  pub plays : seen_of (play f c s₀ (calls_of exchanges₀) memory₀) ≡ onto (map answer (take i exchanges)) (take at memory) (seen_of (play f c s (calls_of (drop i exchanges)) (drop at memory)))

-- the part from `at` to at' of a memory became the window
module _ (at at' n : ℕ) (window memory memory' : List ℕ) (within : at ≤ length memory) (size : length window ≡ min n (length memory - at)) (writes : memory' ≡ take at memory ++ (window ++ drop at' memory)) (moves : at' ≡ min (at + n) (length memory)) where
  long : length (take at memory ++ window) ≡ at'
  long = length-append (take at memory) window ∙ omega (arith, length-take at memory)

  written : memory' ≡ (take at memory ++ window) ++ drop at' memory
  written = writes ∙ sym (append_assoc (take at memory) window (drop at' memory))

  still_within : at' ≤ length memory'
  still_within = omega (arith, ap length written, length-append (take at memory ++ window) (drop at' memory), long)

  front : take at memory ++ window ≡ take at' memory'
  front = sym (take-append_seam (take at memory ++ window) (drop at' memory)) ∙ (λ j. take (long j) (sym written j))

  left : drop n (drop at memory) ≡ drop at' memory'
  left =
      drop-drop n at memory ∙ sym (drop_min (at + n) memory) ∙ ap (λ (k : ℕ). drop k memory) (sym moves)
      ∙ sym (drop-append_seam (take at memory ++ window) (drop at' memory)) ∙ (λ j. drop (long j) (sym written j))

module _ {f c : List Bool} {answer : Exchange → Answer} {s₀ : Report} {exchanges₀ : List Exchange} {memory₀ : List ℕ} {i at : ℕ} {s : Report} {memory : List ℕ} {exchanges : List Exchange} (g : Going f c answer s₀ exchanges₀ memory₀ i at s memory exchanges) where
  -- one call more, x: it does t, the exchange is then y, and the reader stands at s' and has come to the place at' of its memory
  module _ (d : Exchange) {x : Call} {y : Exchange} {t : Outcome} {at' : ℕ} {s' : Report} {memory' : List ℕ} where
    pub going_more : i < length exchanges → (get_or exchanges i d).call ≡ x → y.call ≡ x → t ≡ step f c s x (take (room x) (drop at memory)) → answer y ≡ t.answer → memory' ≡ take at memory ++ (t.window ++ drop at' memory) → at' ≡ min (at + room x) (length memory) → s' ≡ t.state → Going f c answer s₀ exchanges₀ memory₀ (i + 1) at' s' memory' (set exchanges i y)
    going_more more here asked is answers writes moves state =
        let size : length t.window ≡ min (room x) (length memory - at) =
        ap (λ (u : Outcome). length u.window) is ∙ same_size f c s x (take (room x) (drop at memory)) ∙ length-take (room x) (drop at memory)
        ∙ ap (min (room x)) (length-drop at memory) in
        let before = map answer (take i exchanges) in
        let unplayed : drop (suc i) exchanges ≡ drop (i + 1) (set exchanges i y) =
        ap (λ (n : ℕ). drop n exchanges) (sym (add-one i)) ∙ sym (drop-set-lt (i + 1) exchanges i y (omega arith)) in
        let column : before ++ (t.answer ∷ []) ≡ map answer (take (i + 1) (set exchanges i y)) =
        ap (λ (a : Answer). before ++ (a ∷ [])) (sym answers) ∙ sym (map-append answer (take i exchanges) (y ∷ []))
        ∙ ap (map answer) (front_more i exchanges y more) in
        record {
          calls = map-set_same (λ (e : Exchange). e.call) exchanges i y d (asked ∙ sym here) ∙ g.calls;
          within = still_within at at' (room x) t.window memory memory' g.within size writes moves;
          plays = g.plays
              ∙ ap (λ (xs : List Exchange). onto before (take at memory) (seen_of (play f c s (calls_of xs) (drop at memory)))) (drop-cons exchanges i d more)
              ∙ ap (λ (z : Call). onto before (take at memory) (seen_of (play f c s (z ∷ calls_of (drop (suc i) exchanges)) (drop at memory)))) here
              ∙ play_more f c s x (calls_of (drop (suc i) exchanges)) (drop at memory) before (take at memory)
              ∙ (λ j. onto (before ++ ((sym is j).answer ∷ [])) (take at memory ++ (sym is j).window) (seen_of (play f c (sym is j).state (calls_of (unplayed j)) (drop (room x) (drop at memory)))))
              ∙ (λ j. onto (column j) (front at at' (room x) t.window memory memory' g.within size writes moves j) (seen_of (play f c (sym state j) (calls_of (drop (i + 1) (set exchanges i y))) (left at at' (room x) t.window memory memory' g.within size writes moves j))));
        }

  pub going_all : length exchanges ≤ i → ◌≡◌ {A = Seen} (record { answers = map answer exchanges; memory = memory; report = s }) (seen_of (play f c s₀ (calls_of exchanges₀) memory₀))
  going_all h =
      let whole = append-nil (map answer (take i exchanges)) ∙ ap (map answer) (take_all i exchanges h) in
      sym (g.plays
      ∙ ap (λ (xs : List Exchange). onto (map answer (take i exchanges)) (take at memory) (seen_of (play f c s (calls_of xs) (drop at memory)))) (drop_all i exchanges h)
      ∙ ap (λ (r : Played). onto (map answer (take i exchanges)) (take at memory) (seen_of r)) (play_none f c s (drop at memory))
      ∙ (λ j. record { answers = whole j; memory = take-append-drop at memory j; report = s }))
