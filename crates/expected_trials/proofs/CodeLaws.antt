-- What the code has found, against the definition.
use Prim.Native.Nat.{ℕ, suc, ◌+◌, ◌-◌, ◌≤◌, ◌<◌}
use native.Mathlib.Omega.{arith}
use mathlib.Core.Path.{◌≡◌, refl, sym, ap, subst, ◌∙◌}
use mathlib.Core.Bool.{Bool, cond}
use mathlib.Core.List.{List, [], ◌∷◌, ◌++◌, append-nil, append_assoc}
use borrow.Author.Tests.{le-leb, lt-leb}
use lib.ListN.{length, set, replicate, length-append}
use Rattle.std.specs.Prelude.{Ok}
use Rattle.reply.specs.Reply.{padded}
use Rattle.walker.specs.Walked.{memory_walk}
use Rattle.walk_tables.specs.declared.Machine.{Machine}
use Rattle.expected_trial.specs.declared.Trial.{Trial}
use Rattle.expected_trial.specs.declared.Trial.TheVariants.{Fits, Misfit, Outgrown}
use Rattle.expected_trial.specs.Trial.{as_tokens, trial_of}
use Rattle.expected_trials.specs.Trials.{ExpectedReply, Expected, Tried, lacking, fitting, noted, tried, short_at, listed_at, answered_at, ListTold}

-- ---- the trials that the code makes, after tokens u

abbrev pub trials : Machine → ℕ → ℕ → ℕ → List ℕ → ℕ → Trial
trials mem n k p u c = trial_of p (memory_walk mem n k (u ++ as_tokens c))

module _ (mem : Machine) {n k i j : ℕ} {u v : List ℕ} (p : ℕ) (ns : i ≡ n) (ks : j ≡ k) (us : v ≡ u) where
  -- slices that kept their lengths, and tokens that stand where they stood
  pub told_is : {x : Trial} (c : ℕ) → x ≡ trials mem i j p v c → trials mem n k p u c ≡ x
  told_is c e =
      sym (e ∙ ap (λ (l : ℕ). trials mem l j p v c) ns ∙ ap (λ (l : ℕ). trials mem n l p v c) ks
      ∙ ap (λ (l : List ℕ). trials mem n k p l c) us)

-- ---- trials in a row, with the codes that fit noted so far

-- codes found before, put in front of those found later
abbrev before : List ℕ → Tried → Tried
before l lacking = lacking
before l (fitting r) = fitting (l ++ r)

before_none : (x : Tried) → x ≡ before [] x
before_none lacking = refl
before_none (fitting r) = refl

before_fits : (l : List ℕ) (c : ℕ) (x : Tried) → before l (noted Fits c x) ≡ before (l ++ c ∷ []) x
before_fits l c lacking = refl
before_fits l c (fitting r) = ap fitting (sym (append_assoc l (c ∷ []) r))

set_zero : (l : List ℕ) (d c : ℕ) → set (l ++ replicate (suc d) 0) (length l) c ≡ (l ++ c ∷ []) ++ replicate d 0
set_zero [] d c = refl
set_zero (x ∷ l) d c = ap (λ (r : List ℕ). x ∷ r) (set_zero l d c)

note : (room : ℕ) (l : List ℕ) (c : ℕ) → length l < room → set (padded room l) (length l) c ≡ padded room (l ++ c ∷ [])
unfolding padded
note room l c h =
    let d : room - length l ≡ suc (room - suc (length l)) = omega (arith, h) in
    let e : room - suc (length l) ≡ room - length (l ++ c ∷ []) = omega (arith, length-append l (c ∷ [])) in
    ap (λ (i : ℕ). set (l ++ replicate i 0) (length l) c) d ∙ set_zero l (room - suc (length l)) c ∙ ap (λ (i : ℕ). (l ++ c ∷ []) ++ replicate i 0) e

module _ (f : ℕ → Trial) (total room p : ℕ) where
  pub record Noting (codes : List ℕ) (count code : ℕ) : Type 0 where
    pub list : List ℕ
    pub counted : length list ≡ count
    pub within : count ≤ room
    pub held : codes ≡ padded room list
    pub rest : tried f total 0 ≡ before list (tried f (total - code) code)

  pub noting_start : {codes : List ℕ} → codes ≡ replicate room 0 → Noting codes 0 0
  unfolding padded
  noting_start e = record {
    list = [];
    counted = refl;
    within = omega arith;
    held = e ∙ (let z : room ≡ room - 0 = omega arith in ap (λ (i : ℕ). replicate i 0) z);
    rest = before_none (tried f total 0) ∙ (let z : total ≡ total - 0 = omega arith in ap (λ (i : ℕ). before [] (tried f i 0)) z);
  }

  module _ {codes : List ℕ} {count code : ℕ} (N : Noting codes count code) (some : code < total) where
    -- the next trial
    stepped : {x : Trial} → f code ≡ x → tried f total 0 ≡ before N.list (noted x code (tried f (total - (code + 1)) (code + 1)))
    unfolding tried
    stepped {x} e =
        let left : total - code ≡ suc (total - (code + 1)) = omega (arith, some) in
        let next : suc code ≡ code + 1 = omega arith in
        N.rest
        ∙ ap (λ (i : ℕ). before N.list (tried f i code)) left
        ∙ ap (λ (t : Trial). before N.list (noted t code (tried f (total - (code + 1)) (suc code)))) e
        ∙ ap (λ (c : ℕ). before N.list (noted x code (tried f (total - (code + 1)) c))) next

    pub noting_misfit : f code ≡ Misfit → Noting codes count (code + 1)
    noting_misfit e = record { list = N.list; counted = N.counted; within = N.within; held = N.held; rest = stepped e }

    pub noting_fits : f code ≡ Fits → count < room → Noting (set codes count code) (count + 1) (code + 1)
    noting_fits e h =
        let c = N.counted in
        record {
          list = N.list ++ code ∷ [];
          counted = omega (arith, c, length-append N.list (code ∷ []));
          within = omega (arith, h);
          held = ap (λ (l : List ℕ). set l count code) N.held ∙ ap (λ (i : ℕ). set (padded room N.list) i code) (sym c) ∙ note room N.list code (omega (arith, c, h));
          rest = stepped e ∙ before_fits N.list code (tried f (total - (code + 1)) (code + 1));
        }

    pub noting_outgrown : f code ≡ Outgrown → answered_at room p (tried f total 0) ≡ short_at room p
    noting_outgrown e = ap (answered_at room p) (stepped e)

    -- a list with one code more than there is room
    pub noting_full : f code ≡ Fits → room ≤ count → answered_at room p (tried f total 0) ≡ short_at room p
    noting_full e h = ap (answered_at room p) (stepped e ∙ before_fits N.list code (tried f (total - (code + 1)) (code + 1))) ∙ go (tried f (total - (code + 1)) (code + 1))
      where
        go : (x : Tried) → answered_at room p (before (N.list ++ code ∷ []) x) ≡ short_at room p
        go lacking = refl
        go (fitting r) =
            let a = length-append (N.list ++ code ∷ []) r in
            let b = length-append N.list (code ∷ []) in
            let long : room < length ((N.list ++ code ∷ []) ++ r) = omega (arith, a, b, N.counted, h) in
            simp (lt-leb (length ((N.list ++ code ∷ []) ++ r)) room long)

  -- names for the same list and count
  pub noting_same : {codes codes' : List ℕ} {count count' code : ℕ} → codes' ≡ codes → count' ≡ count → Noting codes count code → Noting codes' count' code
  noting_same e h N = record { list = N.list; counted = N.counted ∙ sym h; within = omega (arith, h, N.within); held = e ∙ N.held; rest = N.rest }

  pub noting_end : {codes : List ℕ} {count code : ℕ} → Noting codes count code → code ≡ total
      → ListTold (answered_at room p (tried f total 0)) (Ok (record { place = p; codes = count })) codes
  unfolding tried
  noting_end {codes} {count} {code} N e =
      let none : total - code ≡ 0 = omega (arith, e) in
      let z : tried f total 0 ≡ fitting N.list = N.rest ∙ ap (λ (i : ℕ). before N.list (tried f i code)) none ∙ ap fitting (append-nil N.list) in
      let x : answered_at room p (tried f total 0) ≡ listed_at room p N.list =
      ap (answered_at room p) z ∙ ap (λ (b : Bool). cond b (listed_at room p N.list) (short_at room p)) (le-leb (length N.list) room (omega (arith, N.counted, N.within))) in
      record {
        reply_is = ap (λ (i : ℕ). Ok (record { place = p; codes = i })) (sym N.counted) ∙ sym (ap (λ (y : Expected). y.reply) x);
        codes_is = N.held ∙ sym (ap (λ (y : Expected). y.codes) x);
      }

-- a short slip, told with the length that a slice has kept
pub short_told : (room i p : ℕ) {x : Expected} {r : ExpectedReply} {codes : List ℕ} → i ≡ room → x ≡ short_at room p → ListTold (short_at i p) r codes → ListTold x r codes
short_told room i p {r = r} {codes = codes} e h t = subst (λ (y : Expected). ListTold y r codes) (ap (λ (j : ℕ). short_at j p) e ∙ sym h) t

-- a list, told of tokens that are the same
pub list_told : (mem : Machine) (n k p room : ℕ) {u v : List ℕ} {r : ExpectedReply} {codes : List ℕ} → u ≡ v
    → ListTold (answered_at room p (tried (trials mem n k p u) (suc mem.terminals) 0)) r codes
    → ListTold (answered_at room p (tried (trials mem n k p v) (suc mem.terminals) 0)) r codes
list_told mem n k p room {r = r} {codes = codes} e t =
    subst (λ (u : List ℕ). ListTold (answered_at room p (tried (trials mem n k p u) (suc mem.terminals) 0)) r codes) e t
