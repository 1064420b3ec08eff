-- The builder's lookaheads are the smallest: every table with its states that satisfies the inclusions has them.
use Prim.Native.Nat.{ℕ, zero, suc, ◌≤◌}
use native.Mathlib.Omega.{arith}
use mathlib.Core.Path.{◌≡◌, sym, ap, subst, ◌∙◌}
use mathlib.Core.Logic.{◌⊎◌, inl, inr}
use mathlib.Core.List.{List, [], ◌∷◌, ◌++◌}
use mathlib.Core.Option.{some}
use lib.ListN.{length}
use Rattle.language.specs.Grammar.{Grammar, Rule, at, rule_at, concat}
use Rattle.language.specs.Sentence.{In}
use Rattle.language.proofs.GrammarLaws.{rule_range}
use Rattle.leftcorner.specs.Table.{EntryLine, Action, Table, entry_from, next_state, Goes}
use Rattle.leftcorner.specs.Construction.{entry_item, EntryAt, KernelAt, ActionAt, MovedBy, moved, Carries, in_kernel, in_closure, to_move, LookaheadsMeet}
use Rattle.leftcorner.proofs.Closure.{has_of}
use Rattle.build_states.specs.Strings.{entry_strings, entry_lines}
use Rattle.build_states.proofs.EntryLaws.{goal_at, entry_at_lem, entry_line, found_entry}
use Rattle.build_states.specs.States.{Kernel, item_of, alone, kernel_of, goto}
use Rattle.build_book.proofs.Over.{goes_over}
use Rattle.build_states.proofs.Limits.{Limits}
use Rattle.build_states.proofs.MoveLaws.{move_only}
use Rattle.build_states.proofs.StateLaws.{entry_kernel, Reached, entry_or}
use Rattle.build_states.specs.Lookaheads as look
use Rattle.build_states.specs.Lookaheads.{bare, entry_of, Lookahead}
use Rattle.build_book.proofs.LineLaws.{item_table, same_entries, code_only, Line}
use Rattle.build_book.proofs.Carried.{group_wanted, carried}
use Rattle.build_book.proofs.Live.{in_one}
use Rattle.build_book.proofs.CellLaws.{goes_to, move_next, cell_move}
use Rattle.build_book.proofs.BuiltForm.{full_table, built_entries, built_line, is_action_lem, asked_place}
use Rattle.build_book.proofs.MeetsBuilt.{entry_has, move_has, from_items}

module _ (g : Grammar) (F : List ℕ → ℕ → ℕ → Type 0) (F? : (β : List ℕ) (d c : ℕ) → Dec (F β d c)) (first-codes : List ℕ)
    (F-in : (β : List ℕ) (d c : ℕ) → F β d c → (c ≡ d) ⊎ In c first-codes) (L : Limits g) (codes_low : (c : ℕ) → In c first-codes → c ≤ g.terminals) where
  abbrev t : Table
  t = item_table g F F? first-codes F-in

  abbrev u : Table
  u = full_table g F F? first-codes F-in

  -- an item that moves has its action line in the book, and its line in the next state
  record Moved (q X i n : ℕ) : Type 0 where
    action : Action
    line : ActionAt g u q X action
    next_is : next_state action ≡ some (goto g q X)
    codes : List ℕ
    kernel : KernelAt g u (goto g q X) i n codes

  moves : {q X i n : ℕ} → MovedBy g t q X i n → Moved q X i n
  moves {q = q} {X = X} {i = i} {n = n} m =
      let p = asked_place g F F? first-codes F-in L codes_low (to_move m) in
      let x = goes_to g F F? first-codes F-in q X in
      let a = is_action_lem g F F? first-codes F-in q X x p.0 p.1 p.2 (cell_move g F F? first-codes F-in q X (to_move m)) in
      let k = move_has g F F? first-codes F-in L codes_low q X (goto g q X) i n x a (move_next g F F? first-codes F-in q X) (from_items g F F? first-codes F-in L codes_low m) in
      record { action = x; line = a; next_is = move_next g F F? first-codes F-in q X; codes = k.0; kernel = k.1 }

  -- no rule stands in a kernel with its dot at 0
  no_rule : (q j : ℕ) (r : Rule) (σ : List ℕ) → rule_at g j ≡ some r → KernelAt g u q j zero σ → ⊥
  no_rule q j r σ e m = go (entry_or g q w.high)
    where
      w : Line g F F? first-codes F-in q j zero σ
      w = built_line g F F? first-codes F-in q j zero σ m

      not_moved : (k : Kernel) {X i n : ℕ} → MovedBy g (alone g k) 1 X i n → zero ≡ n → ⊥
      not_moved k (moved h go) z = omega (arith, z)

      go : (q ≤ length (entry_strings g)) ⊎ Reached g q → ⊥
      go (inl h) = let x = in_one (subst (λ (z : Kernel). In w.number z) (entry_kernel g q w.low h) w.stands) in omega (arith, x, w.item, (rule_range g j e).1, w.low)
      go (inr c) = not_moved (kernel_of g c.from) (move_only g (kernel_of g c.from) c.symbol w.number
          (subst (λ (z : Kernel). In w.number z) c.kernel w.stands)) w.dot

  -- another table with the book's entries, kernel sets and moves
  module _ (v : Table) (same : v.entries ≡ entry_lines 1 (entry_strings g))
      (lines : (q i k : ℕ) (σ : List ℕ) → KernelAt g u q i k σ → (τ : List ℕ) × KernelAt g v q i k τ)
      (next : (q X s : ℕ) (x : Action) → ActionAt g u q X x → next_state x ≡ some s → (y : Action) × ActionAt g v q X y × (next_state y ≡ some s))
      (M : (q : ℕ) → LookaheadsMeet g v F q) where
    -- every line that it has for a kernel item has the builder's codes
    abbrev Wide : ℕ → ℕ → ℕ → ℕ → Type 0
    Wide q i k d = (τ : List ℕ) → KernelAt g v q i k τ → In d τ

    entry_same : (k : ℕ) {s : ℕ} {γ : List ℕ} → EntryAt g v k s γ → EntryAt g u k s γ
    entry_same zero e = e
    entry_same (suc j) e = ap (λ (l : List EntryLine). at l j) (built_entries g F F? first-codes F-in ∙ sym same) ∙ e

    group_entry : (i : ℕ) {r : Rule} (δs : List (List ℕ)) (γ : List ℕ) (εs : List (List ℕ)) → rule_at g i ≡ some r → r.groups ≡ δs ++ γ ∷ εs
        → EntryAt g v (entry_of g γ) (entry_of g γ) γ
    group_entry i δs γ εs e p = subst (λ (l : List EntryLine). EntryAt g v (entry_from 1 l γ) (entry_from 1 l γ) γ) same (found_entry g v same (group_wanted g i δs γ εs e p))

    wide_goal : Wide 1 (entry_item g (bare g) 1) zero zero
    wide_goal τ m = (M 1).of_goal (g.goal ∷ []) τ (entry_at_lem g v same 0 (goal_at g)) m

    wide_move : {q i k d X : ℕ} {β : List ℕ} → Lookahead g F q i k d → Carries g v F q i k d → Goes g (bare g) i k X β → Wide (goto g q X) i (suc k) d
    wide_move {q = q} {i = i} {k = k} {d = d} {X = X} {β = β} h c go τ m =
        let a = carried g F F? first-codes F-in L codes_low h in
        let x = moves (moved (has_of g t a) (goes_over g (bare g) t (sym (same_entries g F F? first-codes F-in)) go)) in
        let y = next q X (goto g q X) x.action x.line x.next_is in
        (M (goto g q X)).of_move q X i k d β τ y.0 y.1 y.2 c (goes_over g (bare g) v (sym same) go) m

    wide_group : {q d c : ℕ} (i : ℕ) {r : Rule} (δs : List (List ℕ)) (γ : List ℕ) (εs : List (List ℕ)) → rule_at g i ≡ some r → Carries g v F q i (length r.before) d
        → r.groups ≡ δs ++ γ ∷ εs → F (concat εs) d c → Wide (entry_of g γ) (entry_item g (bare g) (entry_of g γ)) zero c
    wide_group {q = q} {d = d} {c = c} i {r = r} δs γ εs e h p f τ m =
        (M (entry_of g γ)).of_group (entry_of g γ) q i d c γ τ r δs εs (group_entry i δs γ εs e p) e p h f m

    -- an entry item has its line
    on_entry : (k s d : ℕ) (γ : List ℕ) → EntryAt g v k s γ → Wide k (entry_item g (bare g) k) zero d → Carries g v F k (entry_item g (bare g) k) zero d
    on_entry k s d γ e w =
        let l = entry_line g v same k e in
        let x = entry_has g F F? first-codes F-in L codes_low k k γ (subst (λ (z : ℕ). EntryAt g u k z γ) l.0 (entry_same k e)) in
        let y = lines k (entry_item g u k) zero x.0 x.1 in
        in_kernel y.1 (w y.0 y.1)

    contained : {q i k d : ℕ} → Lookahead g F q i k d → Carries g v F q i k d
    contained look.of_goal = on_entry 1 1 zero (g.goal ∷ []) (entry_at_lem g v same 0 (goal_at g)) wide_goal
    contained (look.of_closure j h go e l f) = in_closure j (contained h) (goes_over g (bare g) v (sym same) go) e l f
    contained (look.of_move {q = q} {i = i} {k = k} {X = X} h go) =
        let c = contained h in
        let a = carried g F F? first-codes F-in L codes_low h in
        let x = moves (moved (has_of g t a) (goes_over g (bare g) t (sym (same_entries g F F? first-codes F-in)) go)) in
        let y = lines (goto g q X) i (suc k) x.codes x.kernel in
        in_kernel y.1 (wide_move h c go y.0 y.1)
    contained (look.of_group {c = c} i δs γ εs e h p f) =
        let k = entry_of g γ in
        on_entry k k c γ (group_entry i δs γ εs e p) (wide_group i δs γ εs e (contained h) p f)

    looked_wide : {q i k d : ℕ} (σ : List ℕ) → KernelAt g u q i k σ → Lookahead g F q i k d → Wide q i k d
    looked_wide σ m look.of_goal = wide_goal
    looked_wide σ m (look.of_closure {q = q} j {r = r} h go e l f) = absurd (no_rule q j r σ e m)
    looked_wide σ m (look.of_move h go) = wide_move h (contained h) go
    looked_wide σ m (look.of_group i δs γ εs e h p f) = wide_group i δs γ εs e (contained h) p f

    -- "The builder's kernels have the smallest contexts"
    pub least : (q i k d : ℕ) (σ τ : List ℕ) → KernelAt g u q i k σ → KernelAt g v q i k τ → In d σ → In d τ
    least q i k d σ τ m n h =
        let w = built_line g F F? first-codes F-in q i k σ m in
        let c = (code_only g F F? first-codes F-in q w.number d (subst (λ (z : List ℕ). In d z) w.codes_are h)).0 in
        looked_wide σ m (subst (λ (z : ℕ). Lookahead g F q z k d) (sym w.item) (subst (λ (z : ℕ). Lookahead g F q (item_of w.number) z d) (sym w.dot) c)) τ n
