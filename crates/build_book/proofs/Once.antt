-- The lines of the book: no entry string stands twice, kernel lines rise by state, item and dot, action lines by state and symbol.
use Prim.Native.Nat.{ℕ, zero, suc, ◌/◌, ◌≤◌, ◌<◌}
use native.Mathlib.Decide.{dec_lt}
use native.Mathlib.Omega.{arith}
use mathlib.Core.Path.{◌≡◌, refl, sym, ap, subst, ◌∙◌}
use mathlib.Core.Logic.{◌⊎◌, inl, inr}
use mathlib.Core.List.{List, [], ◌∷◌, ◌++◌}
use mathlib.Core.Option.{Option, some, none}
use lib.ListN.{length, get_or, length-append}
use Rattle.language.specs.Grammar.{Grammar}
use Rattle.language.specs.Sentence.{In, here, there}
use Rattle.language.proofs.Member.{in_right, in_either}
use Rattle.language.specs.Rising.{RisingFrom}
use Rattle.language.proofs.Rising.{rising_in}
use Rattle.leftcorner.specs.Table.{EntryLine, E, KernelLine, K, Action, ActionLine, L}
use Rattle.table_order.specs.Order.{kernel_key, action_key}
use Rattle.table_order.proofs.OrderLaws.{Below, RisingBy, above_all}
use Rattle.build_states.specs.Strings.{entry_lines}
use Rattle.build_states.proofs.Distinct.{Distinct}
use Rattle.build_states.specs.States.{Kernel, item_of, dot_of, range, total}
use Rattle.build_states.proofs.Lists.{range_in}
use Rattle.build_book.specs.Built.{line_if, actions_on, actions_of}
use Rattle.build_book.proofs.LineLaws.{lines, all_of, lines_in, all_in}
use Rattle.build_book.proofs.CellLaws.{cell, on_in, of_in}

-- no two of a list are related
module _ {A : Type 0} (R : A → A → Type 0) where
  abbrev pub Once : List A → Type 0
  Once [] = Unit {0}
  Once (x ∷ l) = ((y : A) → In y l → R x y → ⊥) × Once l

  -- so none before a line is like it
  pub once_before : (earlier : List A) (x : A) (later : List A) → Once (earlier ++ x ∷ later) → (y : A) → In y earlier → R y x → ⊥
  once_before [] x later o y m r = elim m [ ]
  once_before (z ∷ l) x later o y here r = o.0 x (in_right l here) r
  once_before (z ∷ l) x later o y (there m) r = once_before l x later o.1 y m r

abbrev pub SameEntry : EntryLine → EntryLine → Type 0
SameEntry (E s γ) (E u δ) = γ ≡ δ

-- ---- entry lines

lines_string : (a : ℕ) (l : List (List ℕ)) {s : ℕ} {γ : List ℕ} → In (E s γ) (entry_lines a l) → In γ l
lines_string a [] m = elim m [ ]
lines_string a (δ ∷ l) here = here
lines_string a (δ ∷ l) (there m) = there (lines_string (suc a) l m)

pub entries_once : (a : ℕ) (l : List (List ℕ)) → Distinct l → Once SameEntry (entry_lines a l)
entries_once a [] d = tt
entries_once a (γ ∷ l) d = (off, entries_once (suc a) l d.1)
  where
    off : (y : EntryLine) → In y (entry_lines (suc a) l) → SameEntry (E a γ) y → ⊥
    off (E u δ) m e = d.0 (subst (λ (z : List ℕ). In z l) (sym e) (lines_string (suc a) l m))

-- ---- kernel lines

module _ (g : Grammar) (F : List ℕ → ℕ → ℕ → Type 0) (F? : (β : List ℕ) (d c : ℕ) → Dec (F β d c)) (first-codes : List ℕ)
    (F-in : (β : List ℕ) (d c : ℕ) → F β d c → (c ≡ d) ⊎ In c first-codes) where
  -- the lines of a state, before those of later states
  lines_rise : (q a : ℕ) (k : Kernel) (rest : List KernelLine) → RisingFrom a k → ((p i n : ℕ) (τ : List ℕ) → In (K p i n τ) rest → q < p) → RisingBy kernel_key rest
      → RisingBy kernel_key (lines g F F? first-codes F-in q k ++ rest)
  lines_rise q a [] rest r off o = o
  lines_rise q a (x ∷ k) rest r off o = (above_all kernel_key (q ∷ item_of x ∷ dot_of x ∷ []) (lines g F F? first-codes F-in q k ++ rest) above, lines_rise q (suc x) k rest r.1 off o)
    where
      later : (p i n : ℕ) → q ≡ p → (y : ℕ) → item_of y ≡ i → dot_of y ≡ n → suc x ≤ y → Below (q ∷ item_of x ∷ dot_of x ∷ []) (p ∷ i ∷ n ∷ [])
      later p i n e y f d l = go (dec_lt (x / 16) (y / 16))
        where
          go : Dec (x / 16 < y / 16) → Below (q ∷ item_of x ∷ dot_of x ∷ []) (p ∷ i ∷ n ∷ [])
          go (yes h) = inr (e, inl (omega (arith, h, f)))
          go (no h) = let s : x / 16 ≡ y / 16 = omega (arith, h, l) in inr (e, inr (s ∙ f, inl (omega (arith, l, s, d))))

      split : (p i n : ℕ) (τ : List ℕ) → In (K p i n τ) (lines g F F? first-codes F-in q k) ⊎ In (K p i n τ) rest → Below (q ∷ item_of x ∷ dot_of x ∷ []) (p ∷ i ∷ n ∷ [])
      split p i n τ (inl m) =
          let w = lines_in g F F? first-codes F-in q k p i n τ m in
          later p i n (sym w.0) w.1.number (sym w.1.item) (sym w.1.dot) (rising_in (suc x) k w.1.number r.1 w.1.stands)
      split p i n τ (inr m) = inl (off p i n τ m)

      above : (y : KernelLine) → In y (lines g F F? first-codes F-in q k ++ rest) → Below (q ∷ item_of x ∷ dot_of x ∷ []) (kernel_key y)
      above (K p i n τ) m = split p i n τ (in_either (lines g F F? first-codes F-in q k) m)

  pub kernels_rise : (a : ℕ) (ks : List Kernel) → ((j : ℕ) → j < length ks → RisingFrom 0 (get_or ks j [])) → RisingBy kernel_key (all_of g F F? first-codes F-in a ks)
  kernels_rise a [] r = tt
  kernels_rise a (k ∷ ks) r =
      lines_rise a 0 k (all_of g F F? first-codes F-in (suc a) ks) (r 0 (omega arith))
      (λ p i n τ m. let w = all_in g F F? first-codes F-in (suc a) ks p i n τ m in omega (arith, w.1))
      (kernels_rise (suc a) ks (λ j l. r (suc j) (omega (arith, l))))

  lines_count : (q : ℕ) (k : Kernel) → length (lines g F F? first-codes F-in q k) ≡ length k
  lines_count q [] = refl
  lines_count q (x ∷ k) = ap suc (lines_count q k)

  pub kernels_count : (a : ℕ) (ks : List Kernel) → length (all_of g F F? first-codes F-in a ks) ≡ total ks
  kernels_count a [] = refl
  kernels_count a (k ∷ ks) = omega (arith, length-append (lines g F F? first-codes F-in a k) (all_of g F F? first-codes F-in (suc a) ks), lines_count a k, kernels_count (suc a) ks)

  -- ---- action lines

  cells_rise : (q a n : ℕ) (rest : List ActionLine) → ((p X : ℕ) (y : Action) → In (L p X y) rest → q < p) → RisingBy action_key rest
      → RisingBy action_key (actions_on (cell g F F? first-codes F-in) q (range a n) rest)
  cells_rise q a zero rest off o = o
  cells_rise q a (suc n) rest off o = go (cell g F F? first-codes F-in q a) (cells_rise q (suc a) n rest off o)
    where
      more : List ActionLine
      more = actions_on (cell g F F? first-codes F-in) q (range (suc a) n) rest

      split : (p X : ℕ) (y : Action) → ((p ≡ q) × In X (range (suc a) n) × (cell g F F? first-codes F-in q X ≡ some y)) ⊎ In (L p X y) rest → Below (q ∷ a ∷ []) (p ∷ X ∷ [])
      split p X y (inl h) = let z = (range_in (suc a) n X h.1).0 in inr (sym h.0, inl (omega (arith, z)))
      split p X y (inr m) = inl (off p X y m)

      above : (y : ActionLine) → In y more → Below (q ∷ a ∷ []) (action_key y)
      above (L p X y) m = split p X y (on_in g F F? first-codes F-in q (range (suc a) n) rest p X y m)

      go : (c : Option Action) → RisingBy action_key more → RisingBy action_key (line_if q a c more)
      go none h = h
      go (some x) h = (above_all action_key (q ∷ a ∷ []) more above, h)

  pub actions_rise : (a n : ℕ) → RisingBy action_key (actions_of (cell g F F? first-codes F-in) (range a n))
  actions_rise a zero = tt
  actions_rise a (suc n) =
      cells_rise a 0 128 (actions_of (cell g F F? first-codes F-in) (range (suc a) n))
      (λ p X y m. let w = of_in g F F? first-codes F-in (range (suc a) n) p X y m in let z = (range_in (suc a) n p w.0).0 in omega (arith, z))
      (actions_rise (suc a) n)
