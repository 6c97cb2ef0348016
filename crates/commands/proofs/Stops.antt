-- Readers that stop at the first place at which nothing that they read goes on, and say what was wanted there.
use Rattle.std.proofs.Common.{◌≡◌, ◌⊎◌, inl, inr, ℕ, zero, suc, ◌+◌, ◌<◌, ◌≤◌, List, [], ◌∷◌, ◌++◌, length, take, Option, None, Some, Result, Ok, Err, refl, sym, ap, subst, ◌∙◌, append_assoc, arith}
use Rattle.std.proofs.lemmas.List.{append-nil, length-append}
use Rattle.commands.specs.declared.expected.Expected.{Expected}
use Rattle.commands.specs.Reading.{Reader, followed, ◌>>=◌, done, as_meant, wanted}
use Rattle.commands.specs.Wanting.{wanted_at}
use Rattle.commands.proofs.Steps.{as_meant_ok, followed_ok, read_is}

abbrev Words : Type 0
Words = List (List ℕ)

-- where a reader stops, of which what it reads wants these at its places
pub record Stop {A : Type 0} (read : Reader A) (kinds : A → List Expected) (words : Words) (e : Expected) : Type 0 where
  pub at : ℕ
  pub within : at ≤ length words
  pub x : A
  pub more : Words
  pub begins : read (take at words ++ more) ≡ Ok (x, [])
  pub kind : wanted_at (kinds x) at ≡ Some e
  pub unfit : at < length words → (others : Words) (y : A) (left : Words) → read (take (suc at) words ++ others) ≡ Ok (y, left) → ⊥

-- the words that a reader read, whatever stands behind them
pub record Front {A : Type 0} (read : Reader A) (kinds : A → List Expected) (words : Words) (x : A) (left : Words) : Type 0 where
  pub front : Words
  pub parts : words ≡ front ++ left
  pub places : length front ≡ length (kinds x)
  pub again : (more : Words) → read (front ++ more) ≡ Ok (x, more)

pub record Good {A : Type 0} (read : Reader A) (kinds : A → List Expected) : Type 0 where
  pub fronts : (words : Words) (x : A) (left : Words) → read words ≡ Ok (x, left) → Front read kinds words x left
  pub stops : (words : Words) (e : Expected) → read words ≡ Err e → Stop read kinds words e
  pub some : (words : Words) × (x : A) × (read words ≡ Ok (x, []))

-- ---- places in lists

pub wanted_at-left : (xs ys : List Expected) (k : ℕ) (e : Expected) → wanted_at xs k ≡ Some e → wanted_at (xs ++ ys) k ≡ Some e
wanted_at-left [] ys k e h = absurd cc
wanted_at-left (x ∷ xs) ys zero e h = h
wanted_at-left (x ∷ xs) ys (suc k) e h = wanted_at-left xs ys k e h

wanted_at-within : (xs : List Expected) (k : ℕ) (e : Expected) → wanted_at xs k ≡ Some e → k < length xs
wanted_at-within [] k e h = absurd cc
wanted_at-within (x ∷ xs) zero e h = omega arith
wanted_at-within (x ∷ xs) (suc k) e h = omega (arith, wanted_at-within xs k e h)

pub wanted_at-right : (front : Words) (xs ys : List Expected) (k : ℕ) (e : Expected) → length front ≡ length xs → wanted_at ys k ≡ Some e
    → wanted_at (xs ++ ys) (length front + k) ≡ Some e
wanted_at-right [] [] ys k e same h = let zero_k : length {A = List ℕ} [] + k ≡ k = omega arith in rw zero_k h
wanted_at-right [] (x ∷ xs) ys k e same h = absurd (omega arith)
wanted_at-right (word ∷ front) [] ys k e same h = absurd (omega arith)
wanted_at-right (word ∷ front) (x ∷ xs) ys k e same h =
    let next : length (word ∷ front) + k ≡ suc (length front + k) = omega arith in
    rw next (wanted_at-right front xs ys k e (omega arith) h)

pub take-front : (front words : Words) (k : ℕ) → take (length front + k) (front ++ words) ≡ front ++ take k words
take-front [] words k = let zero_k : length {A = List ℕ} [] + k ≡ k = omega arith in rw zero_k refl
take-front (word ∷ front) words k =
    let next : length (word ∷ front) + k ≡ suc (length front + k) = omega arith in
    rw next (ap (λ (ws : Words). word ∷ ws) (take-front front words k))

-- ---- one word

wanted_front : {A : Type 0} (e : Expected) (meaning : List ℕ → Option A) (words : Words) (x : A) (left : Words) → wanted e meaning words ≡ Ok (x, left)
    → Front (wanted e meaning) (λ _. e ∷ []) words x left
wanted_front e meaning [] x left h = absurd cc
wanted_front e meaning (word ∷ words) x left h =
    let w = as_meant_ok e (meaning word) words x left h in
    record { front = word ∷ []; parts = ap (λ (rest : Words). word ∷ rest) w.1; places = refl; again = λ more. ap (λ (o : Option _). as_meant e o more) w.0 }

nothing : {A : Type 0} (o : Option A) (y : A) → o ≡ None → o ≡ Some y → ⊥
nothing o y h k = cc

never : {A : Type 0} (x : A) (words : Words) (e : Expected) → done x words ≡ Err e → ⊥
never x words e h = cc

ap2 : {a b c d : ℕ} → a ≡ b → c ≡ d → a + c ≡ b + d
ap2 h k = cc

as_meant_err : {A : Type 0} (e d : Expected) (o : Option A) (words : Words) → as_meant e o words ≡ Err d → (o ≡ None) × (e ≡ d)
as_meant_err e d None words h = (refl, cc)
as_meant_err e d (Some x) words h = absurd cc

wanted_stop : {A : Type 0} (e : Expected) (meaning : List ℕ → Option A) (word : List ℕ) (x : A) → meaning word ≡ Some x
    → (words : Words) (d : Expected) → wanted e meaning words ≡ Err d → Stop (wanted e meaning) (λ _. e ∷ []) words d
wanted_stop e meaning word x means [] d h =
    let same : e ≡ d = cc in
    record {
      at = 0;
      within = omega arith;
      x = x;
      more = word ∷ [];
      begins = ap (λ (o : Option _). as_meant e o []) means;
      kind = ap (λ (c : Expected). Some c) same;
      unfit = λ lt. absurd (omega arith);
    }
wanted_stop e meaning word x means (other ∷ words) d h =
    let w = as_meant_err e d (meaning other) words h in
    record {
      at = 0;
      within = omega arith;
      x = x;
      more = word ∷ [];
      begins = ap (λ (o : Option _). as_meant e o []) means;
      kind = ap (λ (c : Expected). Some c) w.1;
      unfit = λ lt others y left k. let fits = as_meant_ok e (meaning other) others y left k in absurd (nothing (meaning other) y w.0 fits.0);
    }

pub wanted_good : {A : Type 0} (e : Expected) (meaning : List ℕ → Option A) (word : List ℕ) (x : A) → meaning word ≡ Some x → Good (wanted e meaning) (λ _. e ∷ [])
wanted_good e meaning word x means =
    record {
      fronts = wanted_front e meaning;
      stops = wanted_stop e meaning word x means;
      some = (word ∷ [], x, ap (λ (o : Option _). as_meant e o []) means);
    }

-- ---- nothing, and one thing after another

pub done_good : {A : Type 0} (x : A) → Good (done x) (λ _. [])
done_good {A} x =
    record {
      fronts = λ words y left h. let p : (x, words) ≡ (y, left) = read_is (x, words) (y, left) h in
          record { front = []; parts = ap (λ (q : A × Words). q.1) p; places = refl; again = λ more. ap (λ (q : A × Words). Ok (q.0, more)) p };
      stops = λ words e h. absurd (never x words e h);
      some = ([], x, refl);
    }

-- the first step stops
first_stop : {A B : Type 0} (read : Reader A) (next : A → Reader B) (kinds : A → List Expected) (behind : A → B → List Expected) (all : B → List Expected)
    → Good read kinds → ((x : A) → Good (next x) (behind x))
    → ((x : A) (words : Words) (y : B) (left : Words) → next x words ≡ Ok (y, left) → all y ≡ kinds x ++ behind x y)
    → (words : Words) (e : Expected) → Stop read kinds words e → Stop (read >>= next) all words e
first_stop {A} {B} read next kinds behind all good nexts same words e s =
    let f = good.fronts (take s.at words ++ s.more) s.x [] s.begins in
    let other = (nexts s.x).some in
    let low : s.at < length (kinds s.x) = wanted_at-within (kinds s.x) s.at e s.kind in
    let begun : take s.at words ++ s.more ≡ f.front = f.parts ∙ append-nil f.front in
    let regrouped : take s.at words ++ (s.more ++ other.0) ≡ f.front ++ other.0 =
    sym (append_assoc (take s.at words) s.more other.0) ∙ ap (λ (ws : Words). ws ++ other.0) begun in
    let first : read (take s.at words ++ (s.more ++ other.0)) ≡ Ok (s.x, other.0) = ap read regrouped ∙ f.again other.0 in
    record {
      at = s.at;
      within = s.within;
      x = other.1;
      more = s.more ++ other.0;
      begins = ap (λ (r : Result (A × Words) Expected). followed r next) first ∙ other.2;
      kind = ap (λ (ks : List Expected). wanted_at ks s.at) (same s.x other.0 other.1 [] other.2) ∙ wanted_at-left (kinds s.x) (behind s.x other.1) s.at e s.kind;
      unfit = λ lt others y left h.
          let a = followed_ok (read (take (suc s.at) words ++ others)) next (y, left) h in
          s.unfit lt others a.0.0 a.0.1 a.1;
    }

-- the steps behind it stop
next_stop : {A B : Type 0} (read : Reader A) (next : A → Reader B) (kinds : A → List Expected) (behind : A → B → List Expected) (all : B → List Expected)
    → ((x : A) (words : Words) (y : B) (left : Words) → next x words ≡ Ok (y, left) → all y ≡ kinds x ++ behind x y)
    → (words : Words) (e : Expected) (x : A) (mid : Words) → Front read kinds words x mid → Stop (next x) (behind x) mid e → Stop (read >>= next) all words e
next_stop {A} {B} read next kinds behind all same words e x mid f s =
    let long : length words ≡ length f.front + length mid = ap length f.parts ∙ length-append f.front mid in
    let taken : (k : ℕ) → take (length f.front + k) words ≡ f.front ++ take k mid =
    λ k. ap (λ (ws : Words). take (length f.front + k) ws) f.parts ∙ take-front f.front mid k in
    let first : (k : ℕ) (more : Words) → read (take (length f.front + k) words ++ more) ≡ Ok (x, take k mid ++ more) =
    λ k more. ap (λ (ws : Words). read (ws ++ more)) (taken k) ∙ ap read (append_assoc f.front (take k mid) more) ∙ f.again (take k mid ++ more) in
    record {
      at = length f.front + s.at;
      within = omega (arith, long, s.within);
      x = s.x;
      more = s.more;
      begins = ap (λ (r : Result (A × Words) Expected). followed r next) (first s.at s.more) ∙ s.begins;
      kind = ap (λ (ks : List Expected). wanted_at ks (length f.front + s.at)) (same x (take s.at mid ++ s.more) s.x [] s.begins)
          ∙ wanted_at-right f.front (kinds x) (behind x s.x) s.at e f.places s.kind;
      unfit = λ lt others y left h.
          let one : suc (length f.front + s.at) ≡ length f.front + suc s.at = omega arith in
          let h' : followed (read (take (length f.front + suc s.at) words ++ others)) next ≡ Ok (y, left) =
          subst (λ (k : ℕ). followed (read (take k words ++ others)) next ≡ Ok (y, left)) one h in
          s.unfit (omega (arith, long)) others y left (sym (ap (λ (r : Result (A × Words) Expected). followed r next) (first (suc s.at) others)) ∙ h');
    }

followed_err : {A B : Type 0} (read : Result (A × Words) Expected) (next : A → Reader B) (e : Expected) → followed read next ≡ Err e
    → (read ≡ Err e) ⊎ ((x : A × Words) × (read ≡ Ok x) × (next x.0 x.1 ≡ Err e))
followed_err (Ok x) next e h = inr (x, refl, h)
followed_err (Err d) next e h = let same : d ≡ e = cc in inl (ap (λ (c : Expected). Err c) same)

pub then_good : {A B : Type 0} (read : Reader A) (next : A → Reader B) (kinds : A → List Expected) (behind : A → B → List Expected) (all : B → List Expected)
    → Good read kinds → ((x : A) → Good (next x) (behind x))
    → ((x : A) (words : Words) (y : B) (left : Words) → next x words ≡ Ok (y, left) → all y ≡ kinds x ++ behind x y)
    → Good (read >>= next) all
then_good {A} {B} read next kinds behind all good nexts same =
    record {
      fronts = λ words y left h.
          let a = followed_ok (read words) next (y, left) h in
          let f = good.fronts words a.0.0 a.0.1 a.1 in
          let g = (nexts a.0.0).fronts a.0.1 y left a.2 in
          record {
            front = f.front ++ g.front;
            parts = f.parts ∙ ap (λ (ws : Words). f.front ++ ws) g.parts ∙ sym (append_assoc f.front g.front left);
            places = length-append f.front g.front ∙ ap2 f.places g.places ∙ sym (length-append (kinds a.0.0) (behind a.0.0 y)) ∙ ap length (sym (same a.0.0 a.0.1 y left a.2));
            again = λ more. ap (λ (ws : Words). followed (read ws) next) (append_assoc f.front g.front more)
                ∙ ap (λ (r : Result (A × Words) Expected). followed r next) (f.again (g.front ++ more)) ∙ g.again more;
          };
      stops = λ words e h.
          elim (followed_err (read words) next e h) [
            | inl first ↦ first_stop read next kinds behind all good nexts same words e (good.stops words e first)
            | inr later ↦ next_stop read next kinds behind all same words e later.0.0 later.0.1 (good.fronts words later.0.0 later.0.1 later.1)
                ((nexts later.0.0).stops later.0.1 e later.2)
          ];
      some =
          let a = good.some in
          let f = good.fronts a.0 a.1 [] a.2 in
          let b = (nexts a.1).some in
          (f.front ++ b.0, b.1, ap (λ (r : Result (A × Words) Expected). followed r next) (f.again b.0) ∙ b.2);
    }
