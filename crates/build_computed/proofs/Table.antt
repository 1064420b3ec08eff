-- The builder's whole table, computed from the states, the lookaheads and what is asked of the cells.
use Prim.Native.Nat.{ℕ, suc, ◌+◌, ◌-◌, ◌*◌, ◌/◌, ◌%◌, ◌≤◌, ◌<◌}
use native.Mathlib.Omega.{arith}
use mathlib.Core.Path.{◌≡◌, refl, sym, ap, ap₂, subst, ◌∙◌}
use mathlib.Core.Logic.{◌⊎◌, inl, inr}
use mathlib.Core.Bool.{Bool, true, false, cond, ◌&&◌}
use mathlib.Core.List.{List, [], ◌∷◌, ◌++◌}
use mathlib.Core.Option.{Option, some, none}
use borrow.Author.Tests.{eqb-true, eq-eqb, ne_eqb, lt-ltb, le-ltb}
use lib.Dec.{eqb, ltb}
use lib.ListN.{length}
use Rattle.language.specs.Grammar.{Grammar}
use Rattle.language.specs.Sentence.{In, here, there}
use Rattle.language.specs.WellFormed as grammar
use Rattle.language.specs.Rising.{RisingFrom}
use Rattle.leftcorner.proofs.ReadOff.{clash}
use Rattle.leftcorner.specs.Table.{KernelLine, K, Action, S, N, A, P, ActionLine, Table, next_state}
use Rattle.leftcorner.specs.Construction.{forget}
use Rattle.analysis.specs.ByRules.{FirstByRules}
use Rattle.analysis.proofs.Decided.{first?}
use Rattle.build_states.specs.Strings.{entry_strings, entry_lines}
use Rattle.build_states.specs.States.{Kernel, item_of, dot_of, range, states}
use Rattle.build_states.proofs.Lists.{range_in}
use Rattle.build_book.proofs.LineLaws.{codes, lines, all_of}
use Rattle.build_states.specs.Lookaheads.{bare, Lookahead}
use Rattle.build_states.proofs.StateLaws.{first_kernels}
use Rattle.build_book.proofs.Carried.{codes_is}
use Rattle.build_book.specs.Built.{line_if, actions_on, actions_of, items, built}
use Rattle.build_book.proofs.CellLaws.{cell_asked, cell_moves}
use Rattle.build_states.specs.Lookaheads.{terminal_codes}
use Rattle.build_states.proofs.CodeLaws.{first_in, codes_low}
use Rattle.build_book.specs.Builder.{builder_table}
use Rattle.build_computed.proofs.Work.{work}
use Rattle.build_computed.proofs.First.{and_true, and_both, nulls, next_begins, terminal_begins}
use Rattle.build_computed.proofs.Moves.{insert_if, insert_here, insert_in, insert_rising, insert_late, discover}
use Rattle.build_computed.proofs.Lookaheads.{look_code, looks, looks_only, listed}
use Rattle.build_computed.proofs.Asked.{asks}
use Rattle.build_computed.proofs.Cells.{number_of, asked_at, table_test, Told, null_list, kernel_list, Parts, parts, same, Found, found, limits, asks_of, asked_number, told, cell_of, number_is}

-- ---- codes

abbrev pub is_at : ℕ → ℕ → ℕ → Bool
is_at q x y = eqb (y / 262144) q && eqb (y / 64 % 4096) x

abbrev pub codes_in : List ℕ → ℕ → ℕ → List ℕ
codes_in [] q x = []
codes_in (y ∷ ls) q x = insert_if (is_at q x y) (y % 64) (codes_in ls q x)

codes_rise : (ls : List ℕ) (q x : ℕ) → RisingFrom 0 (codes_in ls q x)
codes_rise [] q x = tt
codes_rise (y ∷ ls) q x = go (is_at q x y) (codes_rise ls q x)
  where
    go : (b : Bool) → RisingFrom 0 (codes_in ls q x) → RisingFrom 0 (insert_if b (y % 64) (codes_in ls q x))
    go true r = insert_rising 0 (y % 64) (codes_in ls q x) (omega arith) r
    go false r = r

codes_in_lem : (ls : List ℕ) (q x d : ℕ) → In d (codes_in ls q x) → (y : ℕ) × In y ls × (y / 262144 ≡ q) × (y / 64 % 4096 ≡ x) × (d ≡ y % 64)
codes_in_lem [] q x d m = elim m [ ]
codes_in_lem (y ∷ ls) q x d m = go (is_at q x y) refl m (codes_in_lem ls q x d)
  where
    Made : List ℕ → Type 0
    Made l = (z : ℕ) × In z l × (z / 262144 ≡ q) × (z / 64 % 4096 ≡ x) × (d ≡ z % 64)

    late : Made ls → Made (y ∷ ls)
    late r = (r.0, there r.1, r.2, r.3, r.4)

    one : is_at q x y ≡ true → (d ≡ y % 64) ⊎ In d (codes_in ls q x) → (In d (codes_in ls q x) → Made ls) → Made (y ∷ ls)
    one e (inl k) rec =
        let b = and_true (eqb (y / 262144) q) (eqb (y / 64 % 4096) x) e in
        (y, here, eqb-true (y / 262144) q b.0, eqb-true (y / 64 % 4096) x b.1, k)
    one e (inr n) rec = late (rec n)

    go : (b : Bool) → is_at q x y ≡ b → In d (insert_if b (y % 64) (codes_in ls q x)) → (In d (codes_in ls q x) → Made ls) → Made (y ∷ ls)
    go true e n rec = one e (insert_in (y % 64) d (codes_in ls q x) n) rec
    go false e n rec = late (rec n)

in_codes : (ls : List ℕ) (q x y : ℕ) → In y ls → y / 262144 ≡ q → y / 64 % 4096 ≡ x → In (y % 64) (codes_in ls q x)
in_codes (z ∷ ls) q x y here e f =
    subst (λ (b : Bool). In (y % 64) (insert_if b (y % 64) (codes_in ls q x)))
    (sym (and_both (eqb (y / 262144) q) (eqb (y / 64 % 4096) x) (eq-eqb (y / 262144) q e) (eq-eqb (y / 64 % 4096) x f)))
    (insert_here (y % 64) (codes_in ls q x))
in_codes (z ∷ ls) q x y (there m) e f = insert_late (is_at q x z) (z % 64) (y % 64) (codes_in ls q x) (in_codes ls q x y m e f)
in_codes [] q x y m e f = elim m [ ]

-- ---- cells

abbrev pub by_number : Bool → Bool → Bool → ℕ → ℕ → Option Action
by_number true b c X v = none
by_number false true c X v = some (cond (ltb X 64) (S (v - 256)) (N (v - 256)))
by_number false false true X v = some (A (v - 512))
by_number false false false X v = some (P (v - 768))

abbrev pub action_at : ℕ → ℕ → Option Action
action_at X v = by_number (eqb v 0) (ltb v 512) (ltb v 768) X v

moving : (X s w : ℕ) → w ≡ 256 + s → s < 256 → action_at X w ≡ some (cond (ltb X 64) (S s) (N s))
moving X s w e l =
    let z : w - 256 ≡ s = omega (arith, e) in
    ap (λ (b : Bool). by_number b (ltb w 512) (ltb w 768) X w) (ne_eqb w 0 (λ k. omega (arith, k, e)))
    ∙ ap (λ (b : Bool). by_number false b (ltb w 768) X w) (lt-ltb w 512 (omega (arith, e, l))) ∙ ap (λ (k : ℕ). some (cond (ltb X 64) (S k) (N k))) z

announcing : (X i w : ℕ) → w ≡ 512 + i → i ≤ 127 → action_at X w ≡ some (A i)
announcing X i w e l =
    let z : w - 512 ≡ i = omega (arith, e) in
    ap (λ (b : Bool). by_number b (ltb w 512) (ltb w 768) X w) (ne_eqb w 0 (λ k. omega (arith, k, e)))
    ∙ ap (λ (b : Bool). by_number false b (ltb w 768) X w) (le-ltb w 512 (omega (arith, e)))
    ∙ ap (λ (b : Bool). by_number false false b X w) (lt-ltb w 768 (omega (arith, e, l))) ∙ ap (λ (k : ℕ). some (A k)) z

popping : (X k w : ℕ) → w ≡ 768 + k → action_at X w ≡ some (P k)
popping X k w e =
    let z : w - 768 ≡ k = omega (arith, e) in
    ap (λ (b : Bool). by_number b (ltb w 512) (ltb w 768) X w) (ne_eqb w 0 (λ k. omega (arith, k, e)))
    ∙ ap (λ (b : Bool). by_number false b (ltb w 768) X w) (le-ltb w 512 (omega (arith, e)))
    ∙ ap (λ (b : Bool). by_number false false b X w) (le-ltb w 768 (omega (arith, e))) ∙ ap (λ (j : ℕ). some (P j)) z

-- ---- the table

module _ (g : Grammar) where
  abbrev pub row_lines : List ℕ → ℕ → List ℕ → List ActionLine → List ActionLine
  row_lines al q [] l = l
  row_lines al q (X ∷ xs) l = line_if q X (action_at X (asked_at al X)) (row_lines al q xs l)

  abbrev pub lines_in : List ℕ → ℕ → Kernel → List KernelLine
  lines_in ls q [] = []
  lines_in ls q (x ∷ k) = K q (item_of x) (dot_of x) (codes_in ls q x) ∷ lines_in ls q k

  abbrev pub all_in : List ℕ → ℕ → List Kernel → List KernelLine
  all_in ls q [] = []
  all_in ls q (k ∷ ks) = lines_in ls q k ++ all_in ls (suc q) ks

  module _ (b : Table) where
    abbrev pub cell_lines : List ℕ → List ℕ → List Kernel → List ℕ → List ℕ → List ActionLine
    cell_lines nl fl ks ls [] = []
    cell_lines nl fl ks ls (q ∷ qs) = row_lines (asks g b nl fl ks ls q) q (range 0 128) (cell_lines nl fl ks ls qs)

    abbrev pub table_looked : List ℕ → List ℕ → List Kernel → Option (List ℕ) → Table
    table_looked nl fl ks none = b
    table_looked nl fl ks (some ls) =
        record { states = length ks; entries = b.entries; kernels = all_in ls 1 ks; actions = cell_lines nl fl ks ls (range 1 (length ks)) }

    abbrev pub table_begun : List ℕ → List Kernel → Option (List ℕ) → Table
    table_begun nl ks none = b
    table_begun nl ks (some fl) = table_looked nl fl ks (looks g b nl fl ks 100000)

    abbrev pub table_with : List ℕ → List Kernel → Table
    table_with nl ks = table_begun nl ks (work (next_begins nl g.rules) 100000 (terminal_begins g.terminals) [])

    -- the table of a grammar with n states
    abbrev pub computed_table : ℕ → Table
    computed_table n = table_with (nulls g.rules g.nonterminals) (discover g b n 0 (first_kernels g))

module _ (g : Grammar) (W : grammar.WellFormed g) (n : ℕ) (passed : table_test g (bare g) n ≡ true) where
  abbrev nl : List ℕ
  nl = null_list g W n passed

  abbrev ks : List Kernel
  ks = kernel_list g W n passed

  abbrev fl : List ℕ
  fl = (found g W n passed).fl

  abbrev ls : List ℕ
  ls = (found g W n passed).ls

  abbrev p : Parts g W n passed
  p = parts g W n passed

  abbrev f : Found g W n passed
  f = found g W n passed

  -- ---- codes

  codes_same : (q x : ℕ) → codes g (FirstByRules g) (first? g) (terminal_codes g) (first_in g) q x ≡ codes_in ls q x
  codes_same q x =
      codes_is g (FirstByRules g) (first? g) (terminal_codes g) (first_in g) (limits g W n passed) (codes_low g) q x (codes_in ls q x)
      (codes_rise ls q x) only all
    where
      only : (d : ℕ) → In d (codes_in ls q x) → Lookahead g (FirstByRules g) q (item_of x) (dot_of x) d
      only d m =
          let y = codes_in_lem ls q x d m in
          let v = y.0 in
          let h = looks_only g W p.few ks (same g W n passed) p.ends nl fl f.F_is 100000 ls f.done v y.1 in
          subst (λ (z : ℕ). Lookahead g (FirstByRules g) z (item_of x) (dot_of x) d) y.2
          (subst (λ (z : ℕ). Lookahead g (FirstByRules g) (v / 262144) (item_of z) (dot_of z) d) y.3
          (subst (λ (z : ℕ). Lookahead g (FirstByRules g) (v / 262144) (item_of (v / 64 % 4096)) (dot_of (v / 64 % 4096)) z) (sym y.4) h))

      all : (d : ℕ) → Lookahead g (FirstByRules g) q (item_of x) (dot_of x) d → In d (codes_in ls q x)
      all d h =
          let v = listed g W p.few ks (same g W n passed) p.ends nl fl f.F_is 100000 ls f.done h in
          let y = look_code q (item_of x * 16 + dot_of x) d in
          let a : y / 262144 ≡ q = omega (arith, v.item, v.code) in
          let b : y / 64 % 4096 ≡ x = omega (arith, v.item, v.code) in
          let c : y % 64 ≡ d = omega (arith, v.code) in
          subst (λ (z : ℕ). In z (codes_in ls q x)) c (in_codes ls q x y v.stands a b)

  lines_same : (q : ℕ) (k : Kernel) → lines g (FirstByRules g) (first? g) (terminal_codes g) (first_in g) q k ≡ lines_in g ls q k
  lines_same q [] = refl
  lines_same q (x ∷ k) = ap₂ (λ (σ : List ℕ) (l : List KernelLine). K q (item_of x) (dot_of x) σ ∷ l) (codes_same q x) (lines_same q k)

  all_same : (q : ℕ) (l : List Kernel) → all_of g (FirstByRules g) (first? g) (terminal_codes g) (first_in g) q l ≡ all_in g ls q l
  all_same q [] = refl
  all_same q (k ∷ l) = ap₂ (λ (a b : List KernelLine). a ++ b) (lines_same q k) (all_same (suc q) l)

  -- ---- cells

  cell_same : (q X : ℕ) → (1 ≤ q) × (q ≤ length (states g)) → cell_of g W n passed q X ≡ action_at X (asked_at (asks_of g W n passed q) X)
  cell_same q X s = go (cell_of g W n passed q X) refl
    where
      Kind : Action → Type 0
      Kind y = Told (forget y) (number_of (some y))

      kind : (y : Action) → cell_of g W n passed q X ≡ some y → Kind y
      kind y e =
          let a = cell_asked g (FirstByRules g) (first? g) (terminal_codes g) (first_in g) q X y e in
          subst (Told (forget y)) (sym (asked_number g W n passed q X (forget y) s a) ∙ sym (number_is g W n passed q X s) ∙ ap number_of e)
          (told g W n passed q X (forget y) s a)

      shift : (k : ℕ) (y : Action) → cell_of g W n passed q X ≡ some y → next_state y ≡ some k → y ≡ cond (ltb X 64) (S k) (N k)
      shift k y e h =
          let m = cell_moves g (FirstByRules g) (first? g) (terminal_codes g) (first_in g) q X k y e h in
          sym m.is ∙ ap (λ (z : ℕ). cond (ltb X 64) (S z) (N z)) (sym m.next_is)

      low_state : (y : Action) (k : ℕ) → forget y ≡ S 0 → number_of (some y) ≡ 256 + k → Kind y → k < 256
      low_state y k h e (inl a) = omega (arith, a.1, e)
      low_state y k h e (inr (inl a)) = let z : A a.0 ≡ S 0 = sym a.1 ∙ h in clash cc
      low_state y k h e (inr (inr a)) = let z : P a.0 ≡ S 0 = sym a.1 ∙ h in clash cc

      low_rule : (i : ℕ) → Kind (A i) → i ≤ 127
      low_rule i (inl a) = let z : A i ≡ S 0 = a.0 in clash cc
      low_rule i (inr (inl a)) = let z : i ≡ a.0 = cc in omega (arith, z, a.2)
      low_rule i (inr (inr a)) = let z : A i ≡ P a.0 = a.1 in clash cc

      of_action : (y : Action) → cell_of g W n passed q X ≡ some y → Kind y → some y ≡ action_at X (number_of (some y))
      of_action (S k) e t = ap (λ (z : Action). some z) (shift k (S k) e refl) ∙ sym (moving X k (256 + k) refl (low_state (S k) k refl refl t))
      of_action (N k) e t = ap (λ (z : Action). some z) (shift k (N k) e refl) ∙ sym (moving X k (256 + k) refl (low_state (N k) k refl refl t))
      of_action (A i) e t = sym (announcing X i (512 + i) refl (low_rule i t))
      of_action (P k) e t = sym (popping X k (768 + k) refl)

      go : (c : Option Action) → cell_of g W n passed q X ≡ c → c ≡ action_at X (asked_at (asks_of g W n passed q) X)
      go none e = ap (action_at X) (sym (ap number_of e) ∙ number_is g W n passed q X s)
      go (some y) e = of_action y e (kind y e) ∙ ap (action_at X) (sym (ap number_of e) ∙ number_is g W n passed q X s)

  on_same : (q : ℕ) (xs : List ℕ) (l k : List ActionLine) → (1 ≤ q) × (q ≤ length (states g)) → l ≡ k
      → actions_on (cell_of g W n passed) q xs l ≡ row_lines g (asks_of g W n passed q) q xs k
  on_same q [] l k s e = e
  on_same q (X ∷ xs) l k s e = ap₂ (λ (o : Option Action) (m : List ActionLine). line_if q X o m) (cell_same q X s) (on_same q xs l k s e)

  of_same : (qs : List ℕ) → ((q : ℕ) → In q qs → (1 ≤ q) × (q ≤ length (states g)))
      → actions_of (cell_of g W n passed) qs ≡ cell_lines g (bare g) nl fl ks ls qs
  of_same [] h = refl
  of_same (q ∷ qs) h =
      on_same q (range 0 128) (actions_of (cell_of g W n passed) qs) (cell_lines g (bare g) nl fl ks ls qs) (h q here)
      (of_same qs (λ p m. h p (there m)))

  -- ---- the table

  abbrev made : ℕ → List KernelLine → List ActionLine → Table
  made a k l = record { states = a; entries = entry_lines 1 (entry_strings g); kernels = k; actions = l }

  found_table : table_with g (bare g) nl ks ≡ made (length ks) (all_in g ls 1 ks) (cell_lines g (bare g) nl fl ks ls (range 1 (length ks)))
  found_table = ap (table_begun g (bare g) nl ks) f.begun ∙ ap (table_looked g (bare g) nl fl ks) f.done

  pub table_computed : builder_table g ≡ computed_table g (bare g) n
  unfolding builder_table built items null_list kernel_list
  table_computed =
      ap₂ (λ (k : List KernelLine) (l : List ActionLine). made (length (states g)) k l) (all_same 1 (states g))
      (of_same (range 1 (length (states g))) (λ q m. inside q m))
      ∙ ap (λ (l : List Kernel). made (length l) (all_in g ls 1 l) (cell_lines g (bare g) nl fl ks ls (range 1 (length l)))) (same g W n passed)
      ∙ sym found_table
    where
      inside : (q : ℕ) → In q (range 1 (length (states g))) → (1 ≤ q) × (q ≤ length (states g))
      inside q m = let r = range_in 1 (length (states g)) q m in (r.0, omega (arith, r.1))
