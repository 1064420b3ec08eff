-- Items that arrive, and targets with nothing else, are what the construction asks of moves.
use Prim.Native.Nat.{ℕ, suc, ◌+◌, ◌<◌}
use mathlib.Core.Path.{◌≡◌, refl, sym, ap, subst, ◌∙◌}
use mathlib.Core.List.{List}
use native.Mathlib.Omega.{arith}
use Rattle.language.specs.Grammar.{Grammar}
use Rattle.leftcorner.specs.Table.{Table}
use Rattle.leftcorner.specs.Construction.{KernelAt, MovedBy}
use Rattle.memory.specs.Memory.{item_at, dot_at}
use Rattle.memory.specs.Held.{HoldsTable}
use Rattle.kernel_lines.specs.Lines.{LineAt}
use Rattle.kernel_lines.proofs.HeldLaws.{line_of, kernel_of}
use Rattle.moves.specs.Moves.{symbol_after, next_at, HasAt, by_line, by_rule, MovedAt, moved}
use Rattle.moves.specs.Flags.{HoldsPresent, HoldsMoves}
use Rattle.moves.proofs.MoveLaws.{moved_to}
use Rattle.moves.proofs.HeldLaws.{moved_at, moved_of, moved_low}
use Rattle.moves.proofs.NextLaws.{Next, next_line, line_next}
use Rattle.check_targets.specs.Targets.{Arrives, LinesArrive, RulesArrive, TargetsOnly, MovesMeet}
use Rattle.check_targets.proofs.ArriveLaws.{arrives_to}

one_more : (k : ℕ) → k + 1 ≡ suc k
one_more k = omega arith

module _ (g : Grammar) (t : Table) {items entries kernels lookaheads kinds values gotos : List ℕ} {rules strings lines : ℕ}
    (H : HoldsTable g t items entries kernels lookaheads kinds values gotos rules strings lines)
    {q : ℕ} {present symbols : List ℕ} (P : HoldsPresent g t q present) (M : HoldsMoves g t q symbols) (low : q < 256) where
  all_arrive : LinesArrive items kernels kinds values gotos lines q → RulesArrive items kernels present kinds values gotos rules lines q
      → {i k : ℕ} → HasAt items kernels present rules lines q i k → Arrives items kernels kinds values gotos lines q i k
  all_arrive a b (by_line l) = arrives_to l.is_it.item l.is_it.dot (a l.line l.is_it.low l.is_it.state)
  all_arrive a b {i = i} (by_rule lo hi p) = b i lo (omega arith) p

  pub meets : LinesArrive items kernels kinds values gotos lines q → RulesArrive items kernels present kinds values gotos rules lines q
      → TargetsOnly items kernels present symbols kinds values gotos rules lines q → MovesMeet g t q
  meets a b c = record { move_has = λ X s i n x m e mv. has_it (next_line g t H x m e) (moved_at g t H P mv); move_only = λ X s i n x m e mv j w σ k. only_it (next_line g t H x m e) mv k }
    where
      has_it : {X s i n : ℕ} → Next g t H q X s → MovedAt items kernels present rules lines q X i n → (σ : List ℕ) × KernelAt g t s i n σ
      has_it {X} {s} {i} N (moved {k = k} e h) =
          let to : next_at kinds values gotos q (symbol_after items i k) ≡ s = ap (next_at kinds values gotos q) e ∙ N.is_next in
          let l = (all_arrive a b h).line (λ z. omega (arith, N.some_symbol, sym e ∙ z)) (λ z. N.some_state (sym to ∙ z)) in
          kernel_of g t H.holds_kernels H.line_count
          (subst (λ (m : ℕ). LineAt kernels lines s i m) (one_more k) (subst (λ (u : ℕ). LineAt kernels lines u i (k + 1)) to l))

      only_it : {X s i n j w : ℕ} {σ : List ℕ} → Next g t H q X s → MovedBy g t q X i n → KernelAt g t s j w σ → MovedBy g t q X j w
      only_it {X} {s} {i} {n} N mv km =
          let l = line_of g t H.holds_kernels H.line_count km in
          let r = (c X N.some_symbol N.low_symbol).only (M.every X i n mv) (λ z. N.some_state (sym N.is_next ∙ z)) l.line l.is_it.low
          (l.is_it.state ∙ sym N.is_next) in
          moved_of g t H P (λ z. omega (arith, N.some_symbol, z)) (moved_to items kernels present rules lines l.is_it.item l.is_it.dot r)

  pub meets_item : MovesMeet g t q → {i k : ℕ} → HasAt items kernels present rules lines q i k → Arrives items kernels kinds values gotos lines q i k
  meets_item w {i} {k} h = record { line = λ f n. go f n }
    where
      go : (symbol_after items i k ≡ 0 → ⊥) → (next_at kinds values gotos q (symbol_after items i k) ≡ 0 → ⊥)
          → LineAt kernels lines (next_at kinds values gotos q (symbol_after items i k)) i (k + 1)
      go f n =
          let X = symbol_after items i k in
          let mv : MovedBy g t q X i (suc k) = moved_of g t H P f (moved refl h) in
          let r = line_next g t H q X low (moved_low g t H P mv).1 n in
          let s = w.move_has X (next_at kinds values gotos q X) i (suc k) r.0 r.1 r.2 mv in
          subst (λ (m : ℕ). LineAt kernels lines (next_at kinds values gotos q X) i m) (sym (one_more k)) (line_of g t H.holds_kernels H.line_count s.1)

  pub meets_only : MovesMeet g t q → TargetsOnly items kernels present symbols kinds values gotos rules lines q
  meets_only w X lo hi = record {
    only = λ o n l b e.
        let r = line_next g t H q X low hi n in
        let v = M.only X lo o in
        let k = kernel_of g t H.holds_kernels H.line_count
        (record { line = l; is_it = record { low = b; state = e; item = refl; dot = refl } }) in
        moved_at g t H P (w.move_only X (next_at kinds values gotos q X) v.0 v.1 r.0 r.1 r.2 v.2 (item_at kernels l) (dot_at kernels l) k.0 k.1);
  }
