-- How a block goes on, and what holds of the lines of a block that was read.
use Prim.Native.Nat.{ℕ, zero, suc, ◌+◌, ◌-◌, ◌≤◌, ◌<◌}
use mathlib.Core.Path.{◌≡◌, refl, ap, ◌∙◌}
use mathlib.Core.Bool.{Bool, true, false}
use mathlib.Core.List.{List, [], ◌∷◌, ◌++◌}
use native.Mathlib.Omega.{arith}
use lib.ListN.{length, length-append}
use Rattle.reply.specs.declared.Refusal.{Refusal}
use Rattle.table_lines.specs.declared.Judgement.TheVariants.{Fine}
use Rattle.table_lines.specs.declared.Step.{Step}
use Rattle.table_lines.specs.declared.Step.TheVariants as step
use Rattle.table_lines.specs.declared.Block.{Block}
use Rattle.table_lines.specs.declared.Block.TheVariants as block
use Rattle.table_lines.specs.Block.{judge, Outcome, takes, stops, refuses, Lines, read, refused, on_outcome, lines_from, Comes, taken, stopped, turned, Reads, all_read, turned_away}

-- of `all` there is left what comes of at most k lines at `at` after l
pub record Reading {A : Type 0} (all : Lines A) (next : ℕ → List A → Outcome A) (k at : ℕ) (l : List A) : Type 0 where
  pub same : all ≡ lines_from k next at l

one_less : (k : ℕ) → suc k - 1 ≡ k
one_less k = omega arith

pub lines_start : {A : Type 0} (next : ℕ → List A → Outcome A) (k at : ℕ) (l : List A) → Reading (lines_from k next at l) next k at l
lines_start next k at l = record { same = refl }

module _ {A : Type 0} {all : Lines A} {next : ℕ → List A → Outcome A} {k at : ℕ} {l : List A} (r : Reading all next k at l) where
  pub lines_none : k ≤ 0 → all ≡ read l at
  unfolding lines_from
  lines_none h = go k r.same h
    where
      go : (k : ℕ) → all ≡ lines_from k next at l → k ≤ 0 → all ≡ read l at
      go zero e h = e
      go (suc k) e h = absurd (omega arith)

  pub lines_stop : 0 < k → next at l ≡ stops → all ≡ read l at
  unfolding lines_from
  lines_stop h q = go k r.same h
    where
      go : (k : ℕ) → all ≡ lines_from k next at l → 0 < k → all ≡ read l at
      go zero e h = absurd (omega arith)
      go (suc k) e h = e ∙ simp q

  pub lines_refuse : {why : Refusal} → 0 < k → next at l ≡ refuses why → all ≡ refused why
  unfolding lines_from
  lines_refuse {why} h q = go k r.same h
    where
      go : (k : ℕ) → all ≡ lines_from k next at l → 0 < k → all ≡ refused why
      go zero e h = absurd (omega arith)
      go (suc k) e h = e ∙ simp q

  pub lines_take : {x : A} {past : ℕ} → 0 < k → next at l ≡ takes x past → Reading all next (k - 1) past (l ++ x ∷ [])
  unfolding lines_from
  lines_take {x} {past} h q = record { same = go k r.same h }
    where
      go : (k : ℕ) → all ≡ lines_from k next at l → 0 < k → all ≡ lines_from (k - 1) next past (l ++ x ∷ [])
      go zero e h = absurd (omega arith)
      go (suc k) e h = e ∙ simp (q, one_less k)

-- what holds before the block and is kept by each line holds of the block's lines
module _ {A : Type 0} (P : List A → Type 0) (next : ℕ → List A → Outcome A)
    (kept : (at : ℕ) (l : List A) (x : A) (past : ℕ) → P l → next at l ≡ takes x past → P (l ++ x ∷ [])) where
  pub lines_keep : (k at : ℕ) (l : List A) → P l → (m : List A) (end : ℕ) → lines_from k next at l ≡ read m end → P m
  unfolding lines_from
  lines_keep zero at l p m end e = let q : l ≡ m = cc in rw (← q) p
  lines_keep (suc k) at l p m end e = go (next at l) refl e (λ x past w. lines_keep k past (l ++ x ∷ []) w m end)
    where
      go : (o : Outcome A) → next at l ≡ o → on_outcome o (λ x past. lines_from k next past (l ++ x ∷ [])) (read l at) refused ≡ read m end
          → ((x : A) (past : ℕ) → P (l ++ x ∷ []) → lines_from k next past (l ++ x ∷ []) ≡ read m end → P m) → P m
      go (takes x past) q e f = f x past (kept at l x past p q) e
      go stops q e f = let q : l ≡ m = cc in rw (← q) p
      go (refuses why) q e f = let z : ◌≡◌ {A = ℕ} 0 1 = cc in absurd (omega arith)

-- a line that is fine is so in each part
pub judge_fine : (f w d : Bool) → judge f w d ≡ Fine → (f ≡ true) × (w ≡ true) × (d ≡ true)
judge_fine true true true e = (refl, refl, refl)
judge_fine true true false e = let z : ◌≡◌ {A = ℕ} 0 1 = cc in absurd (omega arith)
judge_fine true false d e = let z : ◌≡◌ {A = ℕ} 0 1 = cc in absurd (omega arith)
judge_fine false w d e = let z : ◌≡◌ {A = ℕ} 0 1 = cc in absurd (omega arith)

-- ---- loops over lines: k lines are taken, at most `left` are left, and M is what memory is, by the lines taken
pub record Loop {A : Type 0} (all : Lines A) (next : ℕ → List A → Outcome A) (left at k : ℕ) (M : List A → Type 0) : Type 0 where
  pub lines : List A
  pub count_is : length lines ≡ k
  pub reading : Reading all next left at lines
  pub memory : M lines

module _ {A : Type 0} {l : List A} {M : List A → Type 0} where
  comes_taken : {o : Outcome A} {r : Step} {p : ℕ} → Comes l M o r → r ≡ step.Taken p → (x : A) × (o ≡ takes x p) × M (l ++ x ∷ [])
  comes_taken {p = p} (taken {x = x} {next = n} h) e = let q : n ≡ p = cc in (x, ap (takes x) q, h)
  comes_taken (stopped h) e = let z : ◌≡◌ {A = ℕ} 0 1 = cc in absurd (omega arith)
  comes_taken turned e = let z : ◌≡◌ {A = ℕ} 0 1 = cc in absurd (omega arith)

  comes_stopped : {o : Outcome A} {r : Step} → Comes l M o r → r ≡ step.Stopped → (o ≡ stops) × M l
  comes_stopped (taken h) e = let z : ◌≡◌ {A = ℕ} 0 1 = cc in absurd (omega arith)
  comes_stopped (stopped h) e = (refl, h)
  comes_stopped turned e = let z : ◌≡◌ {A = ℕ} 0 1 = cc in absurd (omega arith)

  comes_refused : {o : Outcome A} {r : Step} {w : Refusal} → Comes l M o r → r ≡ step.Refused w → o ≡ refuses w
  comes_refused (taken h) e = let z : ◌≡◌ {A = ℕ} 0 1 = cc in absurd (omega arith)
  comes_refused (stopped h) e = let z : ◌≡◌ {A = ℕ} 0 1 = cc in absurd (omega arith)
  comes_refused {w = w} (turned {why = v}) e = let q : v ≡ w = cc in ap refuses q

-- a block that the code has read, or refused
module _ {A : Type 0} {M : List A → Type 0} where
  pub reads_read : {all : Lines A} {r : Block} {k n : ℕ} → Reads M all r → r ≡ block.Read k n → (l : List A) × (all ≡ read l n) × (length l ≡ k) × M l
  reads_read {k = k} {n = n} (all_read {l = l} {next = p} h) e = let q : p ≡ n = cc in let d : length l ≡ k = cc in (l, ap (read l) q, d, h)
  reads_read turned_away e = let z : ◌≡◌ {A = ℕ} 0 1 = cc in absurd (omega arith)

  pub reads_refused : {all : Lines A} {r : Block} {w : Refusal} → Reads M all r → r ≡ block.Refused w → all ≡ refused w
  reads_refused (all_read h) e = let z : ◌≡◌ {A = ℕ} 0 1 = cc in absurd (omega arith)
  reads_refused {w = w} (turned_away {why = v}) e = let q : v ≡ w = cc in ap refused q

module _ {A : Type 0} {all : Lines A} {next : ℕ → List A → Outcome A} {left at k : ℕ} {M : List A → Type 0} (g : Loop all next left at k M) where
  pub loop_end : left ≤ 0 → Reads M all (block.Read k at)
  loop_end h = rw (lines_none g.reading h, ← g.count_is) (all_read g.memory)

  module _ {r : Step} {N : List A → Type 0} (step_is : (l : List A) → length l ≡ k → M l → Comes l N (next at l) r) (h : 0 < left) where
    pub loop_take : {p n : ℕ} → r ≡ step.Taken p → n ≡ left - 1 → Loop all next n p (k + 1) N
    loop_take {p} {n} e q =
        let t = comes_taken (step_is g.lines g.count_is g.memory) e in
        record {
          lines = g.lines ++ t.0 ∷ [];
          count_is = length-append g.lines (t.0 ∷ []) ∙ omega (arith, g.count_is);
          reading = rw q (lines_take g.reading h t.1);
          memory = t.2;
        }

    pub loop_stop : r ≡ step.Stopped → Reads N all (block.Read k at)
    loop_stop e =
        let t = comes_stopped (step_is g.lines g.count_is g.memory) e in
        rw (lines_stop g.reading h t.0, ← g.count_is) (all_read t.1)

    pub loop_refuse : {K : List A → Type 0} {w : Refusal} → r ≡ step.Refused w → Reads K all (block.Refused w)
    loop_refuse e = rw (lines_refuse g.reading h (comes_refused (step_is g.lines g.count_is g.memory) e)) turned_away

-- what the code has read, when less is told of memory
pub reads_less : {A : Type 0} {M N : List A → Type 0} {all : Lines A} {r : Block} → ((l : List A) → M l → N l) → Reads M all r → Reads N all r
reads_less f (all_read {l = l} h) = all_read (f l h)
reads_less f turned_away = turned_away
