-- The lookaheads that are asked in memory are those that the construction asks.
use Prim.Native.Nat.{ℕ, zero, suc, ◌+◌, ◌*◌, ◌≤◌, ◌<◌}
use mathlib.Core.Path.{◌≡◌, refl, sym, ap, subst, ◌∙◌}
use mathlib.Core.Logic.{◌⊎◌, inl, inr}
use mathlib.Core.List.{List}
use mathlib.Core.Option.{some}
use native.Mathlib.Omega.{arith}
use lib.ListN.{get_or, replicate}
use Rattle.language.specs.Grammar.{Grammar}
use Rattle.language.specs.Sentence.{In}
use Rattle.leftcorner.specs.Table.{EntryLine, E, Table, entry_at}
use Rattle.leftcorner.specs.Construction.{entry_item, EntryAt, KernelAt, WellFormed, LookaheadsMeet}
use Rattle.fixpoint.specs.Flags.{On, Marks}
use Rattle.fixpoint.proofs.PassLaws.{all_off}
use Rattle.memory.specs.Memory.{state_at, item_at, dot_at}
use Rattle.memory.specs.Held.{HoldsTable}
use Rattle.memory.proofs.RangeLaws.{entry_at_lem}
use Rattle.analysis.specs.FirstBy.{FirstBy, first_low}
use Rattle.analysis.specs.Adds.{Adds}
use Rattle.kernel_lines.specs.Lines.{IsLine}
use Rattle.closure.specs.InMemory.{LineIs}
use Rattle.closure.proofs.ItemLaws.{line_of, line_at}
use Rattle.item_first.proofs.CarryLaws.{code_low}
use Rattle.inclusions.specs.Included.{by_move, by_group, Includes, FlagAsked}
use Rattle.inclusions.proofs.FlagLaws.{flag_map, flag_at, flag_line}
use Rattle.check_lookaheads.specs.Narrow.{Narrows}
use Rattle.check_lookaheads.specs.Memory.{StateCovers, GoalAsks}
use Rattle.check_lookaheads.specs.Sources.{LookaheadsFrom, included_in, GoalMeets, LookaheadsBelow, IncludesBelow, lookaheads_all, lookaheads_below, lookaheads_goal}
use Rattle.check_lookaheads.proofs.NarrowLaws.{narrows_map}

-- flags that were all clear
pub new_only : {P : ℕ → Type 0} {none fs : List ℕ} (n : ℕ) → none ≡ replicate n 0 → Adds P none fs → (y : ℕ) → On fs y → P y
new_only {P} {none} n e a y on = go (a.only y on)
  where
    go : On none y ⊎ P y → P y
    go (inl o) = all_off n e o
    go (inr p) = p

module _ (g : Grammar) (t : Table) {items entries kernels lookaheads kinds values gotos : List ℕ} {rules strings lines : ℕ}
    (H : HoldsTable g t items entries kernels lookaheads kinds values gotos rules strings lines) where
  -- a code that is asked of a line that has what is asked
  covered_in : {included : List ℕ} {codes q i k c : ℕ} {σ : List ℕ} → StateCovers kernels included lookaheads lines codes q → codes ≤ 64 → c < codes → KernelAt g t q i k σ
      → ((l : ℕ) → LineIs kernels lines q i k l → On included (l * 64 + c)) → In c σ
  covered_in {q = q} {i = i} {k = k} {c = c} h few low m f =
      let r = line_of g t H.holds_kernels H.line_count m in
      let d = r.1 in
      H.holds_kernels.on_code r.0 q i k c r.2 (omega (arith, low, few)) ((h.each r.0 d.within d.state).covered c low (f r.0 d))

  -- a code of the table's line
  in_covered : {l : ℕ} (c : ℕ) → l < lines → ((σ : List ℕ) → KernelAt g t (state_at kernels l) (item_at kernels l) (dot_at kernels l) σ → In c σ) → On lookaheads (l * 64 + c)
  in_covered {l} c low f =
      let r = line_at g t H.holds_kernels H.line_count (record { within = low; state = refl; item = refl; dot = refl }) in
      H.holds_kernels.code_on l (state_at kernels l) (item_at kernels l) (dot_at kernels l) c r.2 (f r.0 r.1)

  -- ---- the goal: code 0 of its entry's line
  module _ {included₀ included : List ℕ} (a : Adds (GoalAsks kernels entries rules lines) included₀ included) where
    pub goal_from : {codes : ℕ} → 1 ≤ codes → codes ≤ 64 → (q : ℕ) → StateCovers kernels included lookaheads lines codes q → GoalMeets g t q
    goal_from one few q h = record {
      of_goal = λ γ σ ent m. covered_in h few one m (λ l w. a.every (l * 64 + 0) (record {
        line = l;
        is_line = record {
          low = w.within;
          state = w.state ∙ sym (H.holds_entries.state_is 1 q ent);
          item = w.item ∙ ap (λ (r : ℕ). r + 1) H.rule_count;
          dot = w.dot;
        };
        is = omega arith;
      }));
    }

  goal_in : 1 ≤ strings → {l c q : ℕ} → l < lines → state_at kernels l ≡ q → c < 64 → GoalAsks kernels entries rules lines (l * 64 + c) → GoalMeets g t q → On lookaheads (l * 64 + c)
  goal_in some_entry {l} {c} {q} low e lc o m = go (entry_at_lem t H.entry_count 1 (omega arith) (omega (arith, some_entry)))
    where
      go : (x : EntryLine) × (entry_at t 1 ≡ some x) → On lookaheads (l * 64 + c)
      go (E u γ, ent) =
          let z : o.line ≡ l = omega (arith, lc, o.is) in
          let w : IsLine kernels lines (get_or entries 1 0) (rules + 1) 0 l = subst (IsLine kernels lines (get_or entries 1 0) (rules + 1) 0) z o.is_line in
          let eu : u ≡ q = sym (H.holds_entries.state_is 1 u ent) ∙ (sym w.state ∙ e) in
          let ec : 0 ≡ c = omega (arith, lc, o.is) in
          subst (λ (x : ℕ). On lookaheads (l * 64 + x)) ec
          (in_covered 0 low (λ σ ker. m.of_goal γ σ (subst (λ (x : ℕ). EntryAt g t 1 x γ) eu ent)
          (subst (λ (x : ℕ). KernelAt g t x (entry_item g t 1) zero σ) e
          (subst (λ (x : ℕ). KernelAt g t (state_at kernels l) x zero σ) (w.item ∙ sym (ap (λ (r : ℕ). r + 1) H.rule_count))
          (subst (λ (x : ℕ). KernelAt g t (state_at kernels l) (item_at kernels l) x σ) w.dot ker)))))

  module _ {codes : ℕ} (nul fst : List ℕ) (count : codes ≡ suc g.terminals) where
    few : codes ≤ 64
    few = omega (arith, H.formed.few_terminals)

    -- ---- one state: what p asks stands in the lines of q
    pub from_covers : {p q : ℕ} {asked : List ℕ} → ((y : ℕ) → FlagAsked (Includes g t (FirstBy codes nul fst) p) kernels lines codes y → On asked y)
        → StateCovers kernels asked lookaheads lines codes q → LookaheadsFrom g t (FirstBy codes nul fst) p q
    from_covers {p} {q} every h = record {
      of_move = λ X i k d β σ x act nx car go m.
          asked_in (code_low g t H nul fst count car) m (by_move (record { action = x; line = act; next = nx }) car go);
      of_group = λ e i d c γ σ r δs εs ent er split car f m.
          asked_in (first_low codes nul fst (code_low g t H nul fst count car) f) m (by_group e δs εs ent er split car f);
    }
      where
        asked_in : {i k c : ℕ} {σ : List ℕ} → c < codes → KernelAt g t q i k σ → Includes g t (FirstBy codes nul fst) p q i k c → In c σ
        asked_in {c = c} low m x = covered_in h few low m (λ l w. every (l * 64 + c) (flag_at l w low refl x))

    -- ---- the states below n, and the goal
    module _ {n : ℕ} {included₀ included : List ℕ} (a : Marks (FlagAsked (IncludesBelow g t (FirstBy codes nul fst) n) kernels lines codes) included₀)
        (b : Adds (GoalAsks kernels entries rules lines) included₀ included) where
      below : (q : ℕ) → StateCovers kernels included lookaheads lines codes q → LookaheadsBelow g t (FirstBy codes nul fst) n q
      below q h = record {
        from = λ p above low.
            from_covers (λ y f. b.kept y (a.every y (flag_map (λ s i k c x. record { state = p; above = above; below = low; includes = x }) f))) h;
      }

      covers : 1 ≤ strings → (q : ℕ) → LookaheadsBelow g t (FirstBy codes nul fst) n q → GoalMeets g t q → StateCovers kernels included lookaheads lines codes q
      covers some_entry q L m = record {
        each = λ l low e. record {
          covered = λ c lc on. go l c low e (omega (arith, lc, few)) (b.only (l * 64 + c) on);
        };
      }
        where
          go : (l c : ℕ) → l < lines → state_at kernels l ≡ q → c < 64 → On included₀ (l * 64 + c) ⊎ GoalAsks kernels entries rules lines (l * 64 + c) → On lookaheads (l * 64 + c)
          go l c low e lc (inl on) =
              let x = (flag_line l c few lc (a.only (l * 64 + c) on)).1 in
              in_covered c low (included_in g t (FirstBy codes nul fst) ((subst (LookaheadsBelow g t (FirstBy codes nul fst) n) (sym e) L).from x.state x.above x.below) x.includes)
          go l c low e lc (inr o) = goal_in some_entry low e lc o m

      -- states whose lines are asked for more than they have are those whose lookaheads are too few
      pub narrows_all : WellFormed g t → t.states < n → 1 ≤ strings → {fs fs' : List ℕ} → Narrows (StateCovers kernels included lookaheads lines codes) fs fs'
          → Narrows (LookaheadsMeet g t (FirstBy codes nul fst)) fs fs'
      narrows_all W above some_entry w = narrows_map
          (λ q h. lookaheads_all g t (FirstBy codes nul fst) W above q (below q h) (goal_from b (omega (arith, count)) few q h))
          (λ q m. covers some_entry q (lookaheads_below g t (FirstBy codes nul fst) n q m) (lookaheads_goal g t (FirstBy codes nul fst) q m)) w
