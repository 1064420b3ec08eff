-- The kernel lines of the book: an item of the state's kernel set each, with its lookaheads.
use Prim.Native.Nat.{ℕ, zero, suc, ◌+◌, ◌≤◌, ◌<◌}
use native.Mathlib.Omega.{arith}
use mathlib.Core.Path.{◌≡◌, refl, sym, subst}
use mathlib.Core.Logic.{◌⊎◌, inl, inr}
use mathlib.Core.List.{List, [], ◌∷◌}
use lib.ListN.{length, get_or}
use Rattle.language.specs.Grammar.{Grammar}
use Rattle.language.specs.Sentence.{In, here, there}
use Rattle.language.proofs.Member.{in_cons, in_left, in_right, in_either}
use Rattle.language.specs.Rising.{RisingFrom}
use Rattle.leftcorner.specs.Table.{KernelLine, K, Table}
use Rattle.leftcorner.specs.Construction.{KernelAt, Has, in_kernel, in_closure, MovedBy}
use Rattle.build_states.specs.Strings.{entry_strings, entry_lines}
use Rattle.build_states.specs.States.{Kernel, item_of, dot_of, range, alone, states, kernel_of}
use Rattle.build_states.proofs.Lists.{in_range, range_in, keep_only, keep_every, keep_rising}
use Rattle.build_book.proofs.Over.{moved_over}
use Rattle.build_states.proofs.MoveLaws.{alone_line, line_alone}
use Rattle.build_states.specs.Lookaheads.{Lookahead}
use Rattle.build_states.proofs.LookaheadDecided.{lookahead?}
use Rattle.build_book.specs.Built.{codes_at, lines_of, all_lines, items}

module _ (g : Grammar) (F : List ℕ → ℕ → ℕ → Type 0) (F? : (β : List ℕ) (d c : ℕ) → Dec (F β d c)) (first-codes : List ℕ)
    (F-in : (β : List ℕ) (d c : ℕ) → F β d c → (c ≡ d) ⊎ In c first-codes) where
  abbrev pub item_table : Table
  item_table = items g F F? first-codes F-in

  abbrev pub codes : ℕ → ℕ → List ℕ
  codes q x = codes_at g F F? first-codes F-in q x

  abbrev pub lines : ℕ → Kernel → List KernelLine
  lines q k = lines_of g F F? first-codes F-in q k

  abbrev pub all_of : ℕ → List Kernel → List KernelLine
  all_of q ks = all_lines g F F? first-codes F-in q ks

  pub same_entries : item_table.entries ≡ entry_lines 1 (entry_strings g)
  unfolding items
  same_entries = refl

  -- ---- codes

  pub code_only : (q x d : ℕ) → In d (codes q x) → Lookahead g F q (item_of x) (dot_of x) d × (d ≤ g.terminals)
  unfolding codes_at
  code_only q x d m =
      let r = keep_only (Lookahead g F q (item_of x) (dot_of x)) (lookahead? g F F? first-codes F-in q (item_of x) (dot_of x)) (range 0 (suc g.terminals)) d m in
      (r.0, let z = (range_in 0 (suc g.terminals) d r.1).1 in omega (arith, z))

  pub code_every : (q x d : ℕ) → d ≤ g.terminals → Lookahead g F q (item_of x) (dot_of x) d → In d (codes q x)
  unfolding codes_at
  code_every q x d l h =
      keep_every (Lookahead g F q (item_of x) (dot_of x)) (lookahead? g F F? first-codes F-in q (item_of x) (dot_of x))
      (in_range 0 (suc g.terminals) d (omega arith) (omega (arith, l))) h

  -- "Codes are the context, at least one, rising."
  pub codes_rising : (q x : ℕ) → RisingFrom 0 (codes q x)
  unfolding codes_at
  codes_rising q x = keep_rising (Lookahead g F q (item_of x) (dot_of x)) (lookahead? g F F? first-codes F-in q (item_of x) (dot_of x)) 0 (suc g.terminals)

  -- ---- lines

  pub record Of (k : Kernel) (q i n : ℕ) (σ : List ℕ) : Type 0 where
    pub number : ℕ
    pub stands : In number k
    pub item : i ≡ item_of number
    pub dot : n ≡ dot_of number
    pub codes_are : σ ≡ codes q number

  pub lines_in : (q : ℕ) (k : Kernel) (p i n : ℕ) (σ : List ℕ) → In (K p i n σ) (lines q k) → (p ≡ q) × Of k q i n σ
  lines_in q [] p i n σ m = elim m [ ]
  lines_in q (x ∷ k) p i n σ m = go (in_cons m) (lines_in q k p i n σ)
    where
      go : (K p i n σ ≡ K q (item_of x) (dot_of x) (codes q x)) ⊎ In (K p i n σ) (lines q k) → (In (K p i n σ) (lines q k) → (p ≡ q) × Of k q i n σ) → (p ≡ q) × Of (x ∷ k) q i n σ
      go (inl e) rec =
          let a : p ≡ q = cc in
          let b : i ≡ item_of x = cc in
          let c : n ≡ dot_of x = cc in
          let d : σ ≡ codes q x = cc in
          (a, record { number = x; stands = here; item = b; dot = c; codes_are = d })
      go (inr u) rec =
          let r = rec u in
          (r.0, record { number = r.1.number; stands = there r.1.stands; item = r.1.item; dot = r.1.dot; codes_are = r.1.codes_are })

  pub all_in : (a : ℕ) (ks : List Kernel) (p i n : ℕ) (σ : List ℕ) → In (K p i n σ) (all_of a ks) → (j : ℕ) × (p ≡ a + j) × (j < length ks) × Of (get_or ks j []) p i n σ
  all_in a [] p i n σ m = elim m [ ]
  all_in a (k ∷ ks) p i n σ m = go (in_either (lines a k) m) (all_in (suc a) ks p i n σ)
    where
      go : In (K p i n σ) (lines a k) ⊎ In (K p i n σ) (all_of (suc a) ks)
          → (In (K p i n σ) (all_of (suc a) ks) → (j : ℕ) × (p ≡ suc a + j) × (j < length ks) × Of (get_or ks j []) p i n σ)
          → (j : ℕ) × (p ≡ a + j) × (j < length (k ∷ ks)) × Of (get_or (k ∷ ks) j []) p i n σ
      go (inl u) rec = let r = lines_in a k p i n σ u in (0, omega (arith, r.0), omega arith, subst (λ (q : ℕ). Of k q i n σ) (sym r.0) r.1)
      go (inr u) rec = let r = rec u in (suc r.0, omega (arith, r.1), omega (arith, r.2), r.3)

  in_lines : (q x : ℕ) (k : Kernel) → In x k → In (K q (item_of x) (dot_of x) (codes q x)) (lines q k)
  in_lines q x [] m = elim m [ ]
  in_lines q x (y ∷ k) here = here
  in_lines q x (y ∷ k) (there m) = there (in_lines q x k m)

  in_all : (a : ℕ) (ks : List Kernel) (j x : ℕ) → j < length ks → In x (get_or ks j []) → In (K (a + j) (item_of x) (dot_of x) (codes (a + j) x)) (all_of a ks)
  in_all a [] j x l m = absurd (omega (arith, l))
  in_all a (k ∷ ks) zero x l m =
      let z : a ≡ a + 0 = omega arith in
      in_left (all_of (suc a) ks) (subst (λ (q : ℕ). In (K q (item_of x) (dot_of x) (codes q x)) (lines a k)) z (in_lines a x k m))
  in_all a (k ∷ ks) (suc j) x l m =
      let z : suc a + j ≡ a + suc j = omega arith in
      in_right (lines a k) (subst (λ (q : ℕ). In (K q (item_of x) (dot_of x) (codes q x)) (all_of (suc a) ks)) z (in_all (suc a) ks j x (omega (arith, l)) m))

  -- a kernel line of the book
  pub record Line (q i n : ℕ) (σ : List ℕ) : Type 0 where
    pub number : ℕ
    pub stands : In number (kernel_of g q)
    pub item : i ≡ item_of number
    pub dot : n ≡ dot_of number
    pub codes_are : σ ≡ codes q number
    pub low : 1 ≤ q
    pub high : q ≤ length (states g)

  pub line_of : (q i n : ℕ) (σ : List ℕ) → KernelAt g item_table q i n σ → Line q i n σ
  unfolding items
  line_of q i n σ m =
      let r = all_in 1 (states g) q i n σ m in
      let z : suc r.0 ≡ q = omega (arith, r.1) in
      record {
        number = r.3.number;
        stands = subst (λ (p : ℕ). In r.3.number (kernel_of g p)) z r.3.stands;
        item = r.3.item;
        dot = r.3.dot;
        codes_are = r.3.codes_are;
        low = omega (arith, r.1);
        high = omega (arith, r.1, r.2);
      }

  pub of_line : (q x : ℕ) → 1 ≤ q → q ≤ length (states g) → In x (kernel_of g q) → KernelAt g item_table q (item_of x) (dot_of x) (codes q x)
  unfolding items
  of_line zero x l h m = absurd (omega (arith, l))
  of_line (suc j) x l h m =
      let z : 1 + j ≡ suc j = omega arith in
      subst (λ (q : ℕ). In (K q (item_of x) (dot_of x) (codes q x)) (all_of 1 (states g))) z (in_all 1 (states g) j x h m)

  -- ---- what a state holds is what its kernel set holds alone

  pub has_state : {q i n : ℕ} → Has g item_table q i n → (1 ≤ q) × (q ≤ length (states g))
  has_state {q = q} {i = i} {n = n} (in_kernel {σ = σ} h) = let l = line_of q i n σ h in (l.low, l.high)
  has_state (in_closure j h go e l) = has_state h

  to_alone : (q i n : ℕ) (σ : List ℕ) → KernelAt g item_table q i n σ → (τ : List ℕ) × KernelAt g (alone g (kernel_of g q)) 1 i n τ
  to_alone q i n σ m =
      let l = line_of q i n σ m in (
        [],
        subst (λ (z : ℕ). KernelAt g (alone g (kernel_of g q)) 1 z n []) (sym l.item)
            (subst (λ (z : ℕ). KernelAt g (alone g (kernel_of g q)) 1 (item_of l.number) z []) (sym l.dot) (line_alone g l.stands)),
      )

  from_alone : (q : ℕ) → 1 ≤ q → q ≤ length (states g) → (i n : ℕ) (σ : List ℕ) → KernelAt g (alone g (kernel_of g q)) 1 i n σ → (τ : List ℕ) × KernelAt g item_table q i n τ
  from_alone q l h i n σ m =
      let a = alone_line g m in (
        codes q a.0,
        subst (λ (z : ℕ). KernelAt g item_table q z n (codes q a.0)) (sym a.2)
            (subst (λ (z : ℕ). KernelAt g item_table q (item_of a.0) z (codes q a.0)) (sym a.3) (of_line q a.0 l h a.1)),
      )

  pub moved_alone : {q X i n : ℕ} → MovedBy g item_table q X i n → MovedBy g (alone g (kernel_of g q)) 1 X i n
  moved_alone {q = q} m = moved_over g item_table (alone g (kernel_of g q)) same_entries q 1 (to_alone q) m

  pub alone_moved : {q X i n : ℕ} → 1 ≤ q → q ≤ length (states g) → MovedBy g (alone g (kernel_of g q)) 1 X i n → MovedBy g item_table q X i n
  alone_moved {q = q} l h m = moved_over g (alone g (kernel_of g q)) item_table (sym same_entries) 1 q (from_alone q l h) m
