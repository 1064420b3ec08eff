-- A table that memory holds is the one that is read off memory, where its lines stand in the builder's order.
use Prim.Native.Nat.{ℕ, zero, suc, ◌+◌, ◌-◌, ◌*◌, ◌≤◌, ◌<◌}
use mathlib.Core.Path.{◌≡◌, refl, sym, ap, ap₂, ◌∙◌}
use mathlib.Core.List.{List, [], ◌∷◌, map}
use mathlib.Core.Option.{Option, some, none}
use native.Mathlib.Decide.{dec_le}
use native.Mathlib.Omega.{arith}
use borrow.Author.Tests.{lt-ltb, le-ltb, le-leb, ne_eqb}
use lib.ListN.{length, get_or}
use Rattle.language.specs.Grammar.{Grammar, at}
use Rattle.language.specs.Sentence.{In}
use Rattle.language.proofs.GrammarLaws.{at_range}
use Rattle.language.specs.Rising.{RisingFrom}
use Rattle.language.proofs.Rising.{rising_same}
use Rattle.leftcorner.specs.Table.{EntryLine, E, KernelLine, K, Action, S, N, A, P, ActionLine, Table, action_for, goto_state}
use Rattle.items.specs.Layout.{symbol_at, RowIs}
use Rattle.fixpoint.specs.Flags.{On}
use Rattle.memory.specs.Memory.{HoldsItems, HoldsEntries, HoldsKernels, HoldsActions, kind_of, value_of}
use Rattle.build_states.specs.States.{range}
use Rattle.build_states.proofs.Lists.{in_range, range_in, keep_only, keep_every, keep_rising}
use Rattle.build_book.specs.Built.{actions_of}
use Rattle.build_writer.proofs.ActionLines.{of_same}
use Rattle.build_writer.specs.MemoryTable.{symbols_in, entry_in, on?, set_in, codes_in, kernel_in, cell_in, goto_in, action_in, memory_table}

-- what a cell on symbol X may hold, so that memory tells it: an N line has a nonterminal and a state, the others have a code; memory
-- has no other counts than these
abbrev pub FitsCell : ℕ → Option Action → Type 0
FitsCell X none = Unit {0}
FitsCell X (some (S s)) = X < 64
FitsCell X (some (N s)) = (64 ≤ X) × (1 ≤ s)
FitsCell X (some (A i)) = X < 64
FitsCell X (some (P n)) = (X < 64) × (1 ≤ n) × (n ≤ 255)

-- "Its K lines rise by state, item, dot; its action lines by state, symbol." Memory keeps the order of the K lines, and not that of
-- their codes and of the action lines
pub record Ordered (t : Table) (codes : ℕ) : Type 0 where
  pub few_states : t.states ≤ 255
  pub few_codes : codes ≤ 64
  pub strings_short : (k s : ℕ) {γ : List ℕ} → at t.entries k ≡ some (E s γ) → length γ ≤ 15
  pub codes_rise : (l q i k : ℕ) {σ : List ℕ} → at t.kernels l ≡ some (K q i k σ) → RisingFrom 0 σ
  pub codes_low : (l q i k : ℕ) {σ : List ℕ} → at t.kernels l ≡ some (K q i k σ) → (d : ℕ) → In d σ → d < codes
  pub cells_fit : (q X : ℕ) → FitsCell X (action_for t.actions q X)
  pub lines_rise : t.actions ≡ actions_of (action_for t.actions) (range 1 t.states)

-- ---- lists by their elements

map_at : {A : Type 0} (f : ℕ → A) (l : List A) (a : ℕ) → ((k : ℕ) (x : A) → at l k ≡ some x → f (a + k) ≡ x) → map f (range a (length l)) ≡ l
map_at f [] a h = refl
map_at f (x ∷ l) a h =
    let e : a ≡ a + 0 = omega arith in
    ap₂ (λ y m. y ∷ m) (ap f e ∙ h 0 x refl) (map_at f l (suc a) (λ k y g. let s : suc a + k ≡ a + suc k = omega arith in ap f s ∙ h (suc k) y g))

at_get : (l : List ℕ) (k x : ℕ) → at l k ≡ some x → get_or l k 0 ≡ x
at_get [] k x e = cc
at_get (y ∷ l) zero x e = cc
at_get (y ∷ l) (suc k) x e = at_get l k x e

-- ---- entries and kernel lines

symbols_are : {m : List ℕ} {i left mark unit : ℕ} {α φ : List ℕ} → RowIs m i left mark unit α φ → length α ≤ 15 → symbols_in m i ≡ α
unfolding symbols_in
symbols_are {m} {i} {α = α} r short =
    ap (λ (n : ℕ). map (symbol_at m i) (range 0 n)) r.length_is
    ∙ map_at (symbol_at m i) α 0
    (λ k x e. let s : 0 + k ≡ k = omega arith in ap (symbol_at m i) s ∙ (r.symbol_is k (omega (arith, at_range α k e, short)) ∙ at_get α k x e))

codes_are : (lookaheads : List ℕ) (l codes : ℕ) (σ : List ℕ) → RisingFrom 0 σ → ((d : ℕ) → In d σ → (d < codes) × On lookaheads (l * 64 + d))
    → ((d : ℕ) → d < codes → On lookaheads (l * 64 + d) → In d σ) → codes_in lookaheads l codes ≡ σ
unfolding set_in
codes_are lookaheads l codes σ rises every only =
    rising_same 0 0 (codes_in lookaheads l codes) σ (keep_rising Φ test 0 codes) rises
    (λ d m. let k = keep_only Φ test (range 0 codes) d m in only d (let r = (range_in 0 codes d k.1).1 in omega (arith, r)) k.0)
    (λ d m. let k = every d m in keep_every Φ test (in_range 0 codes d (omega arith) (omega (arith, k.0))) k.1)
  where
    Φ : ℕ → Type 0
    Φ d = On lookaheads (l * 64 + d)

    test : (d : ℕ) → Dec (Φ d)
    test d = on? lookaheads (l * 64 + d)

-- ---- actions

cell_is : (X : ℕ) (o : Option Action) → X < 64 → FitsCell X o → cell_in (kind_of o) (value_of o) ≡ o
unfolding cell_in
cell_is X none l f = refl
cell_is X (some (S s)) l f = refl
cell_is X (some (N s)) l f = absurd (omega (arith, l, f.0))
cell_is X (some (A i)) l f = refl
cell_is X (some (P n)) l f = ap (λ (m : ℕ). some (P m)) (ap (λ (m : ℕ). m + 1) (simp (le-leb 1 n f.1, le-leb n 255 f.2)) ∙ (let e : n - 1 + 1 ≡ n = omega (arith, f.1) in e))

goto_is : (X : ℕ) (o : Option Action) → 64 ≤ X → FitsCell X o → goto_in (goto_state o) ≡ o
unfolding goto_in
goto_is X none l f = refl
goto_is X (some (S s)) l f = absurd (omega (arith, l, f))
goto_is X (some (N s)) l f = simp (ne_eqb s 0 (λ e. omega (arith, e, f.1)))
goto_is X (some (A i)) l f = absurd (omega (arith, l, f))
goto_is X (some (P n)) l f = absurd (omega (arith, l, f.0))

module _ {t : Table} {kinds values gotos : List ℕ} (holds : HoldsActions kinds values gotos t) (fit : (q X : ℕ) → FitsCell X (action_for t.actions q X)) where
  action_is : (q X : ℕ) → q < 256 → X < 128 → action_in kinds values gotos q X ≡ action_for t.actions q X
  unfolding action_in
  action_is q X h k = go (dec_le 64 X)
    where
      go : Dec (64 ≤ X) → action_in kinds values gotos q X ≡ action_for t.actions q X
      go (yes l) =
          let e : 64 + (X - 64) ≡ X = omega arith in
          simp (le-ltb X 64 l, holds.goto_is q (X - 64) h (omega arith), e) (goto_is X (action_for t.actions q X) l (fit q X))
      go (no f) =
          let l : X < 64 = omega arith in
          simp (lt-ltb X 64 l, holds.kind_is q X h l, holds.value_is q X h l) (cell_is X (action_for t.actions q X) l (fit q X))

-- ---- the table

table_is : (t : Table) {n : ℕ} {es : List EntryLine} {ks : List KernelLine} {xs : List ActionLine} → n ≡ t.states → es ≡ t.entries → ks ≡ t.kernels
    → xs ≡ t.actions → record { states = n; entries = es; kernels = ks; actions = xs } ≡ t
table_is t a b c d = rw (a, b, c, d)

module _ {t : Table} {codes : ℕ} (O : Ordered t codes) where
  entries_are : {g : Grammar} {items entries : List ℕ} → HoldsItems items g t → HoldsEntries entries t → (rules : ℕ) → length g.rules ≡ rules
      → map (entry_in items entries rules) (range 1 (length t.entries)) ≡ t.entries
  entries_are {g} {items} {entries} I H rules e = map_at (entry_in items entries rules) t.entries 1 one
    where
      one : (k : ℕ) (x : EntryLine) → at t.entries k ≡ some x → entry_in items entries rules (1 + k) ≡ x
      one k (E s γ) h =
          let a : 1 + k ≡ suc k = omega arith in
          let b : rules + (1 + k) ≡ length g.rules + suc k = omega (arith, e) in
          ap₂ E (ap (λ (n : ℕ). get_or entries n 0) a ∙ H.state_is (suc k) s h) (ap (symbols_in items) b ∙ symbols_are (I.entry_row (suc k) s h) (O.strings_short k s h))

  kernels_are : {kernels lookaheads : List ℕ} → HoldsKernels kernels lookaheads t → map (kernel_in kernels lookaheads codes) (range 0 (length t.kernels)) ≡ t.kernels
  kernels_are {kernels} {lookaheads} H = map_at (kernel_in kernels lookaheads codes) t.kernels 0 one
    where
      one : (l : ℕ) (x : KernelLine) → at t.kernels l ≡ some x → kernel_in kernels lookaheads codes (0 + l) ≡ x
      one l (K q i k σ) h =
          let a : 0 + l ≡ l = omega arith in
          let c = codes_are lookaheads l codes σ (O.codes_rise l q i k h) (λ d m. (O.codes_low l q i k h d m, H.code_on l q i k d h m))
          (λ d n o. H.on_code l q i k d h (omega (arith, n, O.few_codes)) o) in
          let qe = H.line_state l q i k h in
          let ie = H.line_item l q i k h in
          let ke = H.line_dot l q i k h in
          ap (kernel_in kernels lookaheads codes) a ∙ cc

  actions_are : {kinds values gotos : List ℕ} → HoldsActions kinds values gotos t → actions_of (action_in kinds values gotos) (range 1 t.states) ≡ t.actions
  actions_are {kinds} {values} {gotos} H =
      of_same (action_in kinds values gotos) (action_for t.actions) (range 1 t.states)
      (λ q X m n. action_is H O.cells_fit q X
      (let r = (range_in 1 t.states q m).1 in omega (arith, r, O.few_states)) (let r = (range_in 0 128 X n).1 in omega (arith, r)))
      ∙ sym O.lines_rise

  -- the table that memory holds is read off it
  pub memory_table_lem : {g : Grammar} {items entries kernels lookaheads kinds values gotos : List ℕ} → HoldsItems items g t → HoldsEntries entries t
      → HoldsKernels kernels lookaheads t → HoldsActions kinds values gotos t → (rules strings lines states : ℕ) → length g.rules ≡ rules
      → length t.entries ≡ strings → length t.kernels ≡ lines → t.states ≡ states
      → memory_table items entries kernels lookaheads kinds values gotos rules strings lines states codes ≡ t
  unfolding memory_table
  memory_table_lem {items = items} {entries} {kernels} {lookaheads} {kinds} {values} {gotos} hi he hk ha rules strings lines states r s l q =
      table_is t (sym q) (ap (λ (n : ℕ). map (entry_in items entries rules) (range 1 n)) (sym s) ∙ entries_are hi he rules r)
      (ap (λ (n : ℕ). map (kernel_in kernels lookaheads codes) (range 0 n)) (sym l) ∙ kernels_are hk)
      (ap (λ (n : ℕ). actions_of (action_in kinds values gotos) (range 1 n)) (sym q) ∙ actions_are ha)
