-- Items and kernel lines in memory are those of the grammar and the table.
use Prim.Native.Nat.{ℕ, zero, suc, ◌+◌, ◌-◌, ◌≤◌, ◌<◌}
use native.Mathlib.Decide.{dec_lt}
use native.Mathlib.Numerals.{add-one}
use native.Mathlib.Omega.{arith}
use mathlib.Core.Path.{◌≡◌, refl, sym, ap, ap₂, subst, ◌∙◌}
use mathlib.Core.Logic.{inl, inr}
use mathlib.Core.List.{List, [], ◌∷◌}
use mathlib.Core.Option.{some}
use lib.ListN.{length, get_or, drop, drop_of_length-le}
use lib.Seq.{drop-cons}
use Rattle.language.specs.Grammar.{Grammar, Rule, right, at, rule_at}
use Rattle.language.proofs.GrammarLaws.{not_there, at_below}
use Rattle.language.specs.Sentence.{In, here, there}
use Rattle.leftcorner.specs.Table.{KernelLine, K, Table, string_of, symbols_of, recognition_point, Goes}
use Rattle.leftcorner.specs.Construction.{entry_item, EntryAt, KernelAt}
use Rattle.leftcorner.proofs.Sources.{symbols_rule, point_rule, symbols_entry, point_entry}
use Rattle.items.specs.Layout.{length_at, mark_at, symbol_at, RuleIn, EntryIn}
use Rattle.memory.specs.Memory.{HoldsItems, HoldsKernels}
use Rattle.analysis.specs.Rests.{Before, rest_at, rest_none, rest_more}
use Rattle.closure.specs.InMemory.{DeclaredItem, LineIs}

-- ---- a row's symbols as a string

rest_string : (m : List ℕ) (i : ℕ) (α : List ℕ) → length_at m i ≡ length α → length α ≤ 15 → ((k : ℕ) → k < 15 → symbol_at m i k ≡ get_or α k 0)
    → (n k : ℕ) → length α - k ≡ n → drop k α ≡ rest_at m i k
rest_string m i α e s f zero k z = drop_of_length-le α {i = k} (omega arith) ∙ sym (rest_none m i k (omega arith))
rest_string m i α e s f (suc n) k z =
    let l : k < length α = omega arith in
    drop-cons α k 0 l
    ∙ ap₂ (λ (X : ℕ) (β : List ℕ). X ∷ β) (sym (f k (omega arith))) (rest_string m i α e s f n (suc k) (omega arith) ∙ ap (rest_at m i) (sym (add-one k)))
    ∙ sym (rest_more m i k (omega arith))

module _ (m : List ℕ) (g : Grammar) (t : Table) where
  -- item i's row
  pub record ItemHeld (i : ℕ) : Type 0 where
    pub short : length_at m i ≤ 15
    pub symbols : (k : ℕ) → drop k (symbols_of g t i) ≡ rest_at m i k
    pub mark_is : (k : ℕ) → recognition_point g t i ≡ some k → mark_at m i ≡ k
    pub is_mark : (k : ℕ) → k < 255 → mark_at m i ≡ k → recognition_point g t i ≡ some k

  held_rule : (i : ℕ) (r : Rule) → rule_at g i ≡ some r → RuleIn m i r → length_at m i ≤ 15 → ItemHeld i
  held_rule i r e w s = record {
    short = s;
    symbols = λ k. ap (drop k) (symbols_rule g t i r e) ∙ rest_string m i (right r) w.length_is (omega (arith, w.length_is)) w.symbol_is (length (right r) - k) k refl;
    mark_is = λ k h. let z : some (length r.before) ≡ some k = sym (point_rule g t i r e) ∙ h in let y : length r.before ≡ k = cc in w.mark_is ∙ y;
    is_mark = λ k l h. point_rule g t i r e ∙ ap (λ (n : ℕ). some n) (sym w.mark_is ∙ h);
  }

  held_entry : (j s : ℕ) (γ : List ℕ) → EntryAt g t j s γ → EntryIn m (entry_item g t j) γ → length_at m (entry_item g t j) ≤ 15 → ItemHeld (entry_item g t j)
  held_entry j s γ e w l = record {
    short = l;
    symbols = λ k. ap (drop k) (symbols_entry g t j s γ e ∙ ap string_of e)
        ∙ rest_string m (entry_item g t j) γ w.length_is (omega (arith, w.length_is)) w.symbol_is (length γ - k) k refl;
    mark_is = λ k h. not_there (sym (point_entry g t j s γ e) ∙ h);
    is_mark = λ k u h. absurd (omega (arith, w.mark_is, h, u));
  }

  pub item_held : HoldsItems m g t → (i : ℕ) → DeclaredItem g t i → length_at m i ≤ 15 → ItemHeld i
  item_held h i (inl (r, e)) l = held_rule i r e (h.rule_row i e) l
  item_held h i (inr (j, s, γ, ei, e)) l =
      subst ItemHeld (sym ei) (held_entry j s γ e (h.entry_row j s e) (subst (λ (n : ℕ). length_at m n ≤ 15) ei l))

  -- what `Goes` says of item i, memory says
  pub goes_before : {i k X : ℕ} {β : List ℕ} → ItemHeld i → Goes g t i k X β → Before m i k × (symbol_at m i k ≡ X) × (rest_at m i (k + 1) ≡ β)
  goes_before {i = i} {k = k} {X = X} {β = β} h go = pick (dec_lt k (length_at m i))
    where
      rest_is : rest_at m i k ≡ X ∷ β
      rest_is = sym (h.symbols k) ∙ go.before

      pick : Dec (k < length_at m i) → Before m i k × (symbol_at m i k ≡ X) × (rest_at m i (k + 1) ≡ β)
      pick (yes l) =
          let e : symbol_at m i k ∷ rest_at m i (k + 1) ≡ X ∷ β = sym (rest_more m i k l) ∙ rest_is in
          (record { within = l; unmarked = λ z. go.unmarked (h.is_mark k (omega (arith, h.short)) z) }, cc, cc)
      pick (no n) =
          let e : [] ≡ X ∷ β = sym (rest_none m i k (omega arith)) ∙ rest_is in
          let z : ◌≡◌ {A = ℕ} 0 1 = cc in absurd (omega arith)

  pub before_goes : {i k : ℕ} → ItemHeld i → Before m i k → Goes g t i k (symbol_at m i k) (rest_at m i (k + 1))
  before_goes {i = i} {k = k} h b = record { before = h.symbols k ∙ rest_more m i k b.within; unmarked = λ e. b.unmarked (h.mark_is k e) }

-- ---- kernel lines by number

in_at : {A : Type 0} {x : A} {l : List A} → In x l → (n : ℕ) × (n < length l) × (at l n ≡ some x)
in_at here = (0, omega arith, refl)
in_at (there p) = let r = in_at p in (suc r.0, omega (arith, r.1), r.2)

at_in : {A : Type 0} {x : A} (l : List A) (n : ℕ) → at l n ≡ some x → In x l
at_in [] n e = not_there e
at_in {x = x} (y ∷ l) zero e = subst (λ (z : _). In z (y ∷ l)) (let f : y ≡ x = cc in f) here
at_in (y ∷ l) (suc n) e = there (at_in l n e)

module _ (g : Grammar) (t : Table) {kernels lookaheads : List ℕ} {lines : ℕ} (h : HoldsKernels kernels lookaheads t) (count : length t.kernels ≡ lines) where
  pub line_of : {q i k : ℕ} {σ : List ℕ} → KernelAt g t q i k σ → (l : ℕ) × LineIs kernels lines q i k l × (at t.kernels l ≡ some (K q i k σ))
  line_of {q = q} {i = i} {k = k} p =
      let r = in_at p in (
        r.0,
        record { within = omega (arith, r.1); state = h.line_state r.0 q i k r.2; item = h.line_item r.0 q i k r.2; dot = h.line_dot r.0 q i k r.2 },
        r.2,
      )

  pub line_at : {q i k l : ℕ} → LineIs kernels lines q i k l → (σ : List ℕ) × KernelAt g t q i k σ × (at t.kernels l ≡ some (K q i k σ))
  line_at {q = q} {i = i} {k = k} {l = l} d = go (at_below t.kernels l (omega (arith, d.within)))
    where
      go : (x : KernelLine) × (at t.kernels l ≡ some x) → (σ : List ℕ) × KernelAt g t q i k σ × (at t.kernels l ≡ some (K q i k σ))
      go (K p j n σ, e) =
          let a : p ≡ q = sym (h.line_state l p j n e) ∙ d.state in
          let b : j ≡ i = sym (h.line_item l p j n e) ∙ d.item in
          let c : n ≡ k = sym (h.line_dot l p j n e) ∙ d.dot in
          let f : at t.kernels l ≡ some (K q i k σ) = cc in
          (σ, at_in t.kernels l f, f)
