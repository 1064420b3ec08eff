-- One more action line in memory.
use Prim.Native.Nat.{ℕ, ◌+◌, ◌*◌, ◌-◌, ◌/◌, ◌%◌, ◌≤◌, ◌<◌}
use mathlib.Core.Path.{◌≡◌, refl, sym, ap, ◌∙◌}
use mathlib.Core.List.{List, [], ◌∷◌, ◌++◌}
use mathlib.Core.Bool.{Bool, true, false, ◌||◌}
use mathlib.Core.Option.{Option, some, none}
use native.Mathlib.Omega.{arith}
use borrow.Author.Tests.{eq-eqb, ne_eqb}
use lib.ListN.{get_or, set}
use Rattle.leftcorner.specs.Table.{Action, S, N, A, P, ActionLine, L, action_for, goto_state}
use Rattle.memory.specs.Memory.{kind_of, value_of}
use Rattle.table_order.specs.Order.{follows, action_key}
use Rattle.table_order.proofs.OrderLaws.{follows_all, rising_more}
use Rattle.table_order.proofs.LastLaws.{last_more}
use Rattle.table_lines.specs.Image.{image, flag}
use Rattle.table_lines.proofs.ImageLaws.{image-set, image_same}
use Rattle.table_actions.specs.Memory.{cell_at, goto_at, names, is_named, Formed, Cells, Stored, ActionImage, ActionMemory}
use Rattle.table_actions.proofs.CellLaws.{action_here, action_other, action_none, cell_back, goto_back}

module _ (l : List ActionLine) (q X : ℕ) (x : Action) where
  -- ---- cells
  module _ (f : Option Action → ℕ) (n : ℕ) where
    cells_set : q ≤ 255 → X < 64 → action_for l q X ≡ none → set (image n (cell_at f l)) (q * 64 + X) (f (some x)) ≡ image n (cell_at f (l ++ L q X x ∷ []))
    unfolding cell_at
    cells_set few low e = image-set n (cell_at f l) (cell_at f (l ++ L q X x ∷ [])) (q * 64 + X) (f (some x)) here other
      where
        here : cell_at f (l ++ L q X x ∷ []) (q * 64 + X) ≡ f (some x)
        here = cell_back q X few f (l ++ L q X x ∷ []) low ∙ ap f (action_here l q X x e)

        other : (y : ℕ) → (y ≡ q * 64 + X → ⊥) → f (action_for (l ++ L q X x ∷ []) (y / 64) (y % 64)) ≡ f (action_for l (y / 64) (y % 64))
        other y g = ap f (action_other l q X x (y / 64) (y % 64) (λ d. g (omega (arith, d.0, d.1))))

    cells_same : 64 ≤ X → image n (cell_at f l) ≡ image n (cell_at f (l ++ L q X x ∷ []))
    unfolding cell_at
    cells_same high = image_same n (cell_at f l) (cell_at f (l ++ L q X x ∷ [])) (λ y b. ap f (action_other l q X x (y / 64) (y % 64) (λ d. omega (arith, d.1, high))))

  -- ---- gotos
  module _ (n : ℕ) where
    gotos_set : q ≤ 255 → 1 ≤ q → 64 ≤ X → X < 128 → action_for l q X ≡ none → set (image n (goto_at l)) (q * 64 + X - 64) (goto_state (some x)) ≡ image n (goto_at (l ++ L q X x ∷ []))
    unfolding goto_at
    gotos_set few some-q high low e = image-set n (goto_at l) (goto_at (l ++ L q X x ∷ [])) (q * 64 + X - 64) (goto_state (some x)) here other
      where
        here : goto_at (l ++ L q X x ∷ []) (q * 64 + X - 64) ≡ goto_state (some x)
        here =
            ap (goto_at (l ++ L q X x ∷ [])) (let z : q * 64 + X - 64 ≡ q * 64 + (X - 64) = omega arith in z)
            ∙ (goto_back q X few (l ++ L q X x ∷ []) high low ∙ ap goto_state (action_here l q X x e))

        other : (y : ℕ) → (y ≡ q * 64 + X - 64 → ⊥) → goto_state (action_for (l ++ L q X x ∷ []) (y / 64) (64 + y % 64)) ≡ goto_state (action_for l (y / 64) (64 + y % 64))
        other y g = ap goto_state (action_other l q X x (y / 64) (64 + y % 64) (λ d. g (omega (arith, d.0, d.1))))

    gotos_same : X < 64 → image n (goto_at l) ≡ image n (goto_at (l ++ L q X x ∷ []))
    unfolding goto_at
    gotos_same low = image_same n (goto_at l) (goto_at (l ++ L q X x ∷ [])) (λ y b. ap goto_state (action_other l q X x (y / 64) (64 + y % 64) (λ d. omega (arith, d.1, low))))

  -- ---- named states
  named_snoc : (y : ℕ) → is_named (l ++ L q X x ∷ []) y ≡ is_named l y || names x y
  named_snoc y = go l
    where
      or_false : (b : Bool) → b || false ≡ b
      or_false true = refl
      or_false false = refl

      or_assoc : (a b c : Bool) → a || (b || c) ≡ a || b || c
      or_assoc true b c = refl
      or_assoc false b c = refl

      go : (l : List ActionLine) → is_named (l ++ L q X x ∷ []) y ≡ is_named l y || names x y
      go [] = or_false (names x y)
      go (L p Y z ∷ l) = ap (λ (b : Bool). names z y || b) (go l) ∙ or_assoc (names z y) (is_named l y) (names x y)

  module _ (e : ℕ → Bool) (n : ℕ) where
    or_none : (a b : Bool) → a || (b || false) ≡ a || b
    or_none true b = refl
    or_none false true = refl
    or_none false false = refl

    named_kept : (y : ℕ) → names x y ≡ false → flag (e y || is_named (l ++ L q X x ∷ []) y) ≡ flag (e y || is_named l y)
    named_kept y f = ap flag (ap (λ (b : Bool). e y || b) (named_snoc y ∙ ap (λ (b : Bool). is_named l y || b) f) ∙ or_none (e y) (is_named l y))

    named_same : ((y : ℕ) → names x y ≡ false) → image n (λ y. flag (e y || is_named l y)) ≡ image n (λ y. flag (e y || is_named (l ++ L q X x ∷ []) y))
    named_same f = image_same n (λ y. flag (e y || is_named l y)) (λ y. flag (e y || is_named (l ++ L q X x ∷ []) y)) (λ y b. named_kept y (f y))

    named_set : (s : ℕ) → names x s ≡ true → ((y : ℕ) → (y ≡ s → ⊥) → names x y ≡ false)
        → set (image n (λ y. flag (e y || is_named l y))) s 1 ≡ image n (λ y. flag (e y || is_named (l ++ L q X x ∷ []) y))
    named_set s t f = image-set n (λ y. flag (e y || is_named l y)) (λ y. flag (e y || is_named (l ++ L q X x ∷ []) y)) s 1 here (λ y g. named_kept y (f y g))
      where
        or_true : (a b : Bool) → a || (b || true) ≡ true
        or_true true b = refl
        or_true false true = refl
        or_true false false = refl

        here : flag (e s || is_named (l ++ L q X x ∷ []) s) ≡ 1
        here = ap flag (ap (λ (b : Bool). e s || b) (named_snoc s ∙ ap (λ (b : Bool). is_named l s || b) t) ∙ or_true (e s) (is_named l s))

-- ---- all of it
module _ {e : ℕ → Bool} {a b c d : ℕ} {l : List ActionLine} {kinds values gotos named : List ℕ} (h : ActionImage e a b c d l kinds values gotos named)
    (q X : ℕ) where
  -- with a line whose symbol is a terminal or 0
  cell_more : {kinds' values' gotos' : List ℕ} (x : Action) → action_for l q X ≡ none → q ≤ 255 → X < 64
      → kinds' ≡ set kinds (q * 64 + X) (kind_of (some x)) → values' ≡ set values (q * 64 + X) (value_of (some x)) → gotos' ≡ gotos
      → Cells a b c (l ++ L q X x ∷ []) kinds' values' gotos'
  cell_more x new few low k v g = record {
    kinds_are = k ∙ (ap (λ (m : List ℕ). set m (q * 64 + X) (kind_of (some x))) h.cells.kinds_are ∙ cells_set l q X x kind_of a few low new);
    values_are = v ∙ (ap (λ (m : List ℕ). set m (q * 64 + X) (value_of (some x))) h.cells.values_are ∙ cells_set l q X x value_of b few low new);
    gotos_are = g ∙ (h.cells.gotos_are ∙ gotos_same l q X x c low);
  }

  named_next : {named' : List ℕ} (x : Action) (s : ℕ) → names x s ≡ true → ((y : ℕ) → (y ≡ s → ⊥) → names x y ≡ false) → named' ≡ set named s 1
      → named' ≡ image d (λ y. flag (e y || is_named (l ++ L q X x ∷ []) y))
  named_next x s t f n = n ∙ (ap (λ (m : List ℕ). set m s 1) h.named_are ∙ named_set l q X x e d s t f)

  image_more : (kinds' values' gotos' named' : List ℕ) (x : Action) → action_for l q X ≡ none → Formed (L q X x) → Stored (L q X x) kinds values gotos named kinds' values' gotos' named'
      → ActionImage e a b c d (l ++ L q X x ∷ []) kinds' values' gotos' named'
  image_more kinds' values' gotos' named' (S s) new f w = record {
    cells = cell_more (S s) new f.1 f.2 w.0 w.1 w.2;
    named_are = named_next (S s) s (eq-eqb s s refl) (λ y g. ne_eqb s y (λ z. g (sym z))) w.3;
  }
  image_more kinds' values' gotos' named' (N s) new f w = record {
    cells = record {
      kinds_are = w.0 ∙ (h.cells.kinds_are ∙ cells_same l q X (N s) kind_of a f.2.0);
      values_are = w.1 ∙ (h.cells.values_are ∙ cells_same l q X (N s) value_of b f.2.0);
      gotos_are = w.2 ∙ (ap (λ (m : List ℕ). set m (q * 64 + X - 64) s) h.cells.gotos_are ∙ gotos_set l q X (N s) c f.1 f.0 f.2.0 f.2.1 new);
    };
    named_are = named_next (N s) s (eq-eqb s s refl) (λ y g. ne_eqb s y (λ z. g (sym z))) w.3;
  }
  image_more kinds' values' gotos' named' (A i) new f w = record {
    cells = cell_more (A i) new f.1 f.2 w.0 w.1 w.2;
    named_are = w.3 ∙ (h.named_are ∙ named_same l q X (A i) e d (λ y. refl));
  }
  image_more kinds' values' gotos' named' (P n) new f w = record {
    cells = cell_more (P n) new f.1 f.2 w.0 w.1 w.2;
    named_are = w.3 ∙ (h.named_are ∙ named_same l q X (P n) e d (λ y. refl));
  }

-- and the last key
pub action_more : {e : ℕ → Bool} {a b c d : ℕ} {l : List ActionLine} {kinds values gotos named last : List ℕ} → ActionMemory e a b c d l kinds values gotos named last
    → (q X : ℕ) (kinds' values' gotos' named' : List ℕ) {last' : List ℕ} (x : Action) → follows action_key l (q ∷ X ∷ []) ≡ true → Formed (L q X x)
    → Stored (L q X x) kinds values gotos named kinds' values' gotos' named' → last' ≡ q ∷ X ∷ [] → ((j : ℕ) → get_or (q ∷ X ∷ []) j 0 ≤ 65535)
    → ActionMemory e a b c d (l ++ L q X x ∷ []) kinds' values' gotos' named' last'
action_more {l = l} h q X kinds' values' gotos' named' x after f w z small = record {
  held = image_more h.held q X kinds' values' gotos' named' x (action_none l q X (follows_all action_key l (q ∷ X ∷ []) h.rises after)) f w;
  last_is = last_more l (L q X x) z small;
  rises = rising_more action_key l (L q X x) h.rises after;
}

pub pair_by : {q r X Y : ℕ} → q ≡ r → X ≡ Y → q ∷ X ∷ [] ≡ r ∷ Y ∷ []
pair_by a b = cc

-- without action lines, the states of entries are named
pub none_named : (e : ℕ → Bool) (n : ℕ) → image n (λ q. flag (e q)) ≡ image n (λ q. flag (e q || is_named [] q))
none_named e n = image_same n (λ q. flag (e q)) (λ q. flag (e q || is_named [] q)) (λ q h. ap flag (or_none (e q)))
  where
    or_none : (b : Bool) → b || false ≡ b
    or_none true = refl
    or_none false = refl
