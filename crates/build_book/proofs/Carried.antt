-- The closure's lookaheads in the book are the builder's.
use Prim.Native.Nat.{ℕ, zero, suc, ◌+◌, ◌*◌, ◌≤◌}
use native.Mathlib.Omega.{arith}
use mathlib.Core.Path.{◌≡◌, refl, sym, subst}
use mathlib.Core.Logic.{◌⊎◌, inl, inr}
use mathlib.Core.List.{List, ◌∷◌, ◌++◌}
use mathlib.Core.Option.{some}
use lib.ListN.{length}
use Rattle.language.specs.Grammar.{Grammar, Rule, rule_at, concat}
use Rattle.language.specs.Sentence.{In, here}
use Rattle.language.proofs.Member.{in_right}
use Rattle.language.specs.Rising.{RisingFrom}
use Rattle.language.proofs.Rising.{rising_same}
use Rattle.leftcorner.specs.Table.{Table}
use Rattle.leftcorner.specs.Construction.{Wanted, of_group, entry_item, KernelAt, in_kernel, in_closure, MovedBy, moved, Carries}
use Rattle.leftcorner.proofs.Closure.{has_of}
use Rattle.build_states.specs.Strings.{entry_strings}
use Rattle.build_states.proofs.EntryLaws.{entry_line, found_entry, some_entry}
use Rattle.build_states.specs.States.{Kernel, item_of, dot_of, states, kernel_of, goto}
use Rattle.build_book.proofs.Over.{goes_over}
use Rattle.build_states.proofs.Limits.{Limits}
use Rattle.build_states.proofs.MoveLaws.{item_of_lem, dot_of_lem, in_move, moved_dot}
use Rattle.build_states.proofs.StateLaws.{more_states, entry_kernel, goes_to_lem}
use Rattle.build_states.specs.Lookaheads as look
use Rattle.build_states.specs.Lookaheads.{bare, entry_of, Lookahead}
use Rattle.build_book.proofs.LineLaws.{item_table, codes, same_entries, codes_rising, code_only, code_every, line_of, of_line, has_state, moved_alone}

-- a group of a rule is wanted
pub group_wanted : (g : Grammar) (i : ℕ) {r : Rule} (δs : List (List ℕ)) (γ : List ℕ) (εs : List (List ℕ)) → rule_at g i ≡ some r → r.groups ≡ δs ++ γ ∷ εs → Wanted g γ
group_wanted g i δs γ εs e p = of_group i e (subst (λ (l : List (List ℕ)). In γ l) (sym p) (in_right δs here))

module _ (g : Grammar) (F : List ℕ → ℕ → ℕ → Type 0) (F? : (β : List ℕ) (d c : ℕ) → Dec (F β d c)) (first-codes : List ℕ)
    (F-in : (β : List ℕ) (d c : ℕ) → F β d c → (c ≡ d) ⊎ In c first-codes) where
  abbrev t : Table
  t = item_table g F F? first-codes F-in

  pub looked : {q i k d : ℕ} → Carries g t F q i k d → Lookahead g F q i k d
  looked {q = q} {i = i} {k = k} {d = d} (in_kernel {σ = σ} h m) =
      let l = line_of g F F? first-codes F-in q i k σ h in
      let c = (code_only g F F? first-codes F-in q l.number d (subst (λ (z : List ℕ). In d z) l.codes_are m)).0 in
      subst (λ (z : ℕ). Lookahead g F q z k d) (sym l.item) (subst (λ (z : ℕ). Lookahead g F q (item_of l.number) z d) (sym l.dot) c)
  looked (in_closure j h go e l f) = look.of_closure j (looked h) (goes_over g t (bare g) (same_entries g F F? first-codes F-in) go) e l f

  module _ (L : Limits g) (codes_low : (c : ℕ) → In c first-codes → c ≤ g.terminals) where
    of_first : {c d : ℕ} → d ≤ g.terminals → (c ≡ d) ⊎ In c first-codes → c ≤ g.terminals
    of_first l (inl e) = omega (arith, l, e)
    of_first {c = c} l (inr m) = codes_low c m

    pub first_low : {c d : ℕ} (β : List ℕ) → d ≤ g.terminals → F β d c → c ≤ g.terminals
    first_low {c = c} {d = d} β l f = of_first l (F-in β d c f)

    -- every code is that of a terminal, or 0
    pub look_low : {q i k d : ℕ} → Lookahead g F q i k d → d ≤ g.terminals
    look_low look.of_goal = omega arith
    look_low (look.of_closure j {β = β} h go e l f) = first_low β (look_low h) f
    look_low (look.of_move h go) = look_low h
    look_low (look.of_group i δs γ εs e h p f) = first_low (concat εs) (look_low h) f

    -- the rising list of a kernel item's lookaheads is its codes
    pub codes_is : (q x : ℕ) (m : List ℕ) → RisingFrom 0 m → ((d : ℕ) → In d m → Lookahead g F q (item_of x) (dot_of x) d)
        → ((d : ℕ) → Lookahead g F q (item_of x) (dot_of x) d → In d m) → codes g F F? first-codes F-in q x ≡ m
    codes_is q x m r only every =
        rising_same 0 0 (codes g F F? first-codes F-in q x) m (codes_rising g F F? first-codes F-in q x) r
        (λ d h. every d (code_only g F F? first-codes F-in q x d h).0) (λ d h. code_every g F F? first-codes F-in q x d (look_low (only d h)) (only d h))

    -- a lookahead of a kernel item stands in its line
    pub on_line : (q x i k d : ℕ) → 1 ≤ q → q ≤ length (states g) → In x (kernel_of g q) → item_of x ≡ i → dot_of x ≡ k → Lookahead g F q i k d
        → (σ : List ℕ) × KernelAt g t q i k σ × In d σ
    on_line q x i k d l h m a b c =
        let w = of_line g F F? first-codes F-in q x l h m in (
          codes g F F? first-codes F-in q x,
          subst (λ (z : ℕ). KernelAt g t q i z (codes g F F? first-codes F-in q x)) b (subst (λ (z : ℕ). KernelAt g t q z (dot_of x) (codes g F F? first-codes F-in q x)) a w),
          code_every g F F? first-codes F-in q x d (look_low c) (subst (λ (z : ℕ). Lookahead g F q z (dot_of x) d) (sym a) (subst (λ (z : ℕ). Lookahead g F q i z d) (sym b) c)),
        )

    on_kernel : (q x i k d : ℕ) → 1 ≤ q → q ≤ length (states g) → In x (kernel_of g q) → item_of x ≡ i → dot_of x ≡ k → Lookahead g F q i k d → Carries g t F q i k d
    on_kernel q x i k d l h m a b c = let r = on_line q x i k d l h m a b c in in_kernel r.1 r.2

    -- of an entry item
    on_entry : (e d : ℕ) → 1 ≤ e → e ≤ length (entry_strings g) → Lookahead g F e (entry_item g (bare g) e) zero d → Carries g t F e (entry_item g (bare g) e) zero d
    on_entry e d l h c =
        let k = entry_kernel g e l h in
        on_kernel e ((length g.rules + e) * 16) (entry_item g (bare g) e) zero d l (omega (arith, h, more_states g))
        (subst (λ (z : Kernel). In ((length g.rules + e) * 16) z) (sym k) here) (omega arith) (omega arith) c

    -- of an item that has moved
    after_move : {q i k d X : ℕ} → Carries g t F q i k d → MovedBy g t q X i (suc k) → Lookahead g F (goto g q X) i (suc k) d → Carries g t F (goto g q X) i (suc k) d
    after_move {q = q} {i = i} {k = k} {d = d} {X = X} h m c =
        let s = has_state g F F? first-codes F-in (has_of g t h) in
        let a = moved_alone g F F? first-codes F-in m in
        let n = moved_dot g L.formed L.few_entries (kernel_of g q) a in
        let y = goes_to_lem g L q X i (suc k) s.0 s.1 a in
        on_kernel (goto g q X) (i * 16 + suc k) i (suc k) d y.low y.high
        (subst (λ (z : Kernel). In (i * 16 + suc k) z) (sym y.kernel) (in_move g L.formed L.few_entries (kernel_of g q) a)) (item_of_lem i (suc k) n) (dot_of_lem i (suc k) n) c

    pub carried : {q i k d : ℕ} → Lookahead g F q i k d → Carries g t F q i k d
    carried look.of_goal = on_entry 1 zero (omega arith) (some_entry g) look.of_goal
    carried (look.of_closure j h go e l f) = in_closure j (carried h) (goes_over g (bare g) t (sym (same_entries g F F? first-codes F-in)) go) e l f
    carried (look.of_move h go) =
        let c = carried h in
        after_move c (moved (has_of g t c) (goes_over g (bare g) t (sym (same_entries g F F? first-codes F-in)) go)) (look.of_move h go)
    carried (look.of_group {c = c} i δs γ εs e h p f) =
        let w = entry_line g (bare g) refl (entry_of g γ) (found_entry g (bare g) refl (group_wanted g i δs γ εs e p)) in
        on_entry (entry_of g γ) c w.1 w.2 (look.of_group i δs γ εs e h p f)
