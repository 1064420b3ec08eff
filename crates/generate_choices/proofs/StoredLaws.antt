-- The choices stored nonterminal by nonterminal: none disturbs those before it, and together they are those of the grammar.
use Rattle.std.proofs.Common.{◌≡◌, ℕ, zero, suc, ◌+◌, ◌<◌, ◌≤◌, Bool, true, false, cond, eqb, ltb, List, ◌∷◌, length, get_or, set, sym, refl, ap, ◌∙◌, arith, length-set, get_or-set_other, get_or-set_same, le-ltb, lt-ltb, eq-eqb, ne_eqb}
use native.Mathlib.Decide.{ℕ_discrete, dec_lt}
use lib.Seq.{sets, length-sets}
use Rattle.language.specs.Grammar.{Grammar, IsNonterminal}
use Rattle.items.specs.Layout.{left_at}
use Rattle.items.proofs.StoreLaws.{read_below, read_inside}
use Rattle.items.proofs.LayoutLaws.{declared_below}
use Rattle.generate_loads.specs.Load.{rules_of, shortest}
use Rattle.generate_heights.specs.Heights.{Source, HoldsHeights}
use Rattle.generate_heights.specs.Rows.{rows_of}
use Rattle.generate_heights.proofs.RowLaws.{rows_are}
use Rattle.generate_choices.specs.Choices.{HoldsChoices, listed_at}
use Rattle.generate_choices.specs.Stored.{rows_below, Stored, Keeps}

-- ---- there is room in the list
one_le : (b : Bool) → cond b 1 0 ≤ 1
one_le true = omega arith
one_le false = omega arith

pub below_le : (items : List ℕ) (X i k : ℕ) → rows_below items X i k ≤ k
below_le items X i zero = omega arith
below_le items X i (suc k) = omega (arith, one_le (ltb (left_at items i) X), below_le items X (suc i) k)

one_row : (l X : ℕ) → cond (ltb l X) 1 0 + cond (eqb l X) 1 0 ≤ cond (ltb l (X + 1)) 1 0
one_row l X = go (dec_lt l X) (ℕ_discrete l X)
  where
    go : Dec (l < X) → Dec (l ≡ X) → cond (ltb l X) 1 0 + cond (eqb l X) 1 0 ≤ cond (ltb l (X + 1)) 1 0
    go (yes a) (yes b) = absurd (omega (arith, a, b))
    go (yes a) (no b) = rw (lt-ltb l X a, ne_eqb l X b, lt-ltb l (X + 1) (omega arith)) (omega arith)
    go (no a) (yes b) = rw (le-ltb l X (omega arith), eq-eqb l X b, lt-ltb l (X + 1) (omega arith)) (omega arith)
    go (no a) (no b) = rw (le-ltb l X (omega arith), ne_eqb l X b) (omega arith)

cond-length : (b : Bool) (i : ℕ) (l : List ℕ) → length (cond b (i ∷ l) l) ≡ cond b 1 0 + length l
cond-length true i l = omega arith
cond-length false i l = omega arith

pub below_more : (items : List ℕ) (X i k : ℕ) → rows_below items X i k + length (rows_of items X i k) ≤ rows_below items (X + 1) i k
below_more items X i zero = omega arith
below_more items X i (suc k) =
    omega (arith, one_row (left_at items i) X, cond-length (eqb (left_at items i) X) i (rows_of items X (suc i) k), below_more items X (suc i) k)

-- ---- what is stored for one nonterminal
module _ (items : List ℕ) (rules : ℕ) (before listed : List ℕ) (X at count least : ℕ) (is : listed ≡ sets before (512 + at) (rows_of items X 1 rules)) where
  after : List ℕ
  after = set (set (set listed (128 + X) at) (256 + X) count) (384 + X) least

  elsewhere : (j : ℕ) → (j ≡ 128 + X → ⊥) → (j ≡ 256 + X → ⊥) → (j ≡ 384 + X → ⊥) → get_or after j 0 ≡ get_or (sets before (512 + at) (rows_of items X 1 rules)) j 0
  unfolding after
  elsewhere j a b c =
      get_or-set_other (set (set listed (128 + X) at) (256 + X) count) (384 + X) j least 0 c
      ∙ (get_or-set_other (set listed (128 + X) at) (256 + X) j count 0 b ∙ (get_or-set_other listed (128 + X) j at 0 a ∙ ap (λ (l : List ℕ). get_or l j 0) is))

  pub keeps_of : Keeps X at before (set (set (set listed (128 + X) at) (256 + X) count) (384 + X) least)
  unfolding after
  keeps_of = record { kept = λ j l a b c. elsewhere j a b c ∙ read_below before (rows_of items X 1 rules) (512 + at) j l }

  module _ (room : 640 ≤ length before) (fits : at + length (rows_of items X 1 rules) ≤ 128) (low : X < 128) where
    long : length listed ≡ length before
    long = ap length is ∙ length-sets before (512 + at) (rows_of items X 1 rules)

    long_1 : length (set listed (128 + X) at) ≡ length before
    long_1 = length-set listed (128 + X) at ∙ long

    long_2 : length (set (set listed (128 + X) at) (256 + X) count) ≡ length before
    long_2 = length-set (set listed (128 + X) at) (256 + X) count ∙ long_1

    rule_stored : (k : ℕ) → k < length (rows_of items X 1 rules) → get_or after (512 + (at + k)) 0 ≡ get_or (rows_of items X 1 rules) k 0
    rule_stored k l =
        elsewhere (512 + (at + k)) (λ e. omega (arith, e, low)) (λ e. omega (arith, e, low)) (λ e. omega (arith, e, low))
        ∙ (ap (λ (j : ℕ). get_or (sets before (512 + at) (rows_of items X 1 rules)) j 0) (place at k)
        ∙ read_inside before (rows_of items X 1 rules) (512 + at) k l (omega (arith, l, fits, room)))
      where
        place : (a k : ℕ) → 512 + (a + k) ≡ 512 + a + k
        place a k = omega arith

    pub stored_of : count ≡ length (rows_of items X 1 rules) → ((g : Grammar) → Source items rules g → HoldsHeights g before → IsNonterminal g X → least ≡ shortest g X)
        → Stored items rules before (set (set (set listed (128 + X) at) (256 + X) count) (384 + X) least) X at
    unfolding after
    stored_of e s = record {
      start_is =
          get_or-set_other (set (set listed (128 + X) at) (256 + X) count) (384 + X) (128 + X) least 0 (λ f. omega (arith, f))
          ∙ (get_or-set_other (set listed (128 + X) at) (256 + X) (128 + X) count 0 (λ f. omega (arith, f)) ∙ get_or-set_same listed (128 + X) at 0 (omega (arith, long, room, low)));
      count_is =
          get_or-set_other (set (set listed (128 + X) at) (256 + X) count) (384 + X) (256 + X) least 0 (λ f. omega (arith, f))
          ∙ (get_or-set_same (set listed (128 + X) at) (256 + X) count 0 (omega (arith, long_1, room, low)) ∙ e);
      rule_is = rule_stored;
      shortest_is = λ g a b n. get_or-set_same (set (set listed (128 + X) at) (256 + X) count) (384 + X) least 0 (omega (arith, long_2, room, low)) ∙ s g a b n;
    }

-- ---- of the nonterminals below x, which have `at` rules
pub record AllStored (items : List ℕ) (rules : ℕ) (heights choices : List ℕ) (x at : ℕ) : Type 0 where
  pub height_kept : (X : ℕ) → X < 128 → get_or choices X 0 ≡ get_or heights X 0
  pub stored : (X : ℕ) → 64 ≤ X → X < x → (start : ℕ) × (start + length (rows_of items X 1 rules) ≤ at) × Stored items rules heights choices X start

pub none_stored : (items : List ℕ) (rules : ℕ) (choices : List ℕ) (at : ℕ) → AllStored items rules choices choices 64 at
none_stored items rules choices at = record { height_kept = λ X l. refl; stored = λ X l m. absurd (omega (arith, l, m)) }

module _ (items : List ℕ) (rules : ℕ) (heights : List ℕ) where
  heights_held : (choices : List ℕ) → ((X : ℕ) → X < 128 → get_or choices X 0 ≡ get_or heights X 0) → (g : Grammar) → Source items rules g → HoldsHeights g heights → HoldsHeights g choices
  heights_held choices k g e h = record { height_is = λ X d. k X (declared_below g e.formed X d) ∙ h.height_is X d }

  stored_kept : (before after : List ℕ) (X start x at : ℕ) → Keeps x at before after → X < x → x < 128 → start + length (rows_of items X 1 rules) ≤ at
      → Stored items rules heights before X start → Stored items rules heights after X start
  stored_kept before after X start x at k l m f s = record {
    start_is = same (128 + X) (omega arith) (λ e. omega (arith, e, l)) (λ e. omega (arith, e, l, m)) (λ e. omega (arith, e, l)) ∙ s.start_is;
    count_is = same (256 + X) (omega arith) (λ e. omega (arith, e, l, m)) (λ e. omega (arith, e, l)) (λ e. omega (arith, e, l, m)) ∙ s.count_is;
    rule_is = λ j u. same (512 + (start + j)) (omega (arith, u, f)) (λ e. omega (arith, e, m)) (λ e. omega (arith, e, m)) (λ e. omega (arith, e, m)) ∙ s.rule_is j u;
    shortest_is = λ g a b n. same (384 + X) (omega arith) (λ e. omega (arith, e, l, m)) (λ e. omega (arith, e, l, m)) (λ e. omega (arith, e, l)) ∙ s.shortest_is g a b n;
  }
    where
      same : (j : ℕ) → j < 512 + at → (j ≡ 128 + x → ⊥) → (j ≡ 256 + x → ⊥) → (j ≡ 384 + x → ⊥) → get_or after j 0 ≡ get_or before j 0
      same j = k.kept j

  pub one_stored : (before after : List ℕ) (x at : ℕ) {next : ℕ} → AllStored items rules heights before x at → x < 128 → next ≡ at + length (rows_of items x 1 rules)
      → Stored items rules before after x at → Keeps x at before after → AllStored items rules heights after (x + 1) next
  one_stored before after x at {next = next} A m e s k = record {
    height_kept = λ X l. k.kept X (omega arith) (λ f. omega (arith, f, l)) (λ f. omega (arith, f, l)) (λ f. omega (arith, f, l)) ∙ A.height_kept X l;
    stored = λ X l u. go X l u (ℕ_discrete X x);
  }
    where
      own : Stored items rules heights after x at
      own = record {
        start_is = s.start_is;
        count_is = s.count_is;
        rule_is = s.rule_is;
        shortest_is = λ g a h n. s.shortest_is g a (heights_held before A.height_kept g a h) n;
      }

      go : (X : ℕ) → 64 ≤ X → X < x + 1 → Dec (X ≡ x) → (start : ℕ) × (start + length (rows_of items X 1 rules) ≤ next) × Stored items rules heights after X start
      go X l u (yes q) = rw q (at, omega (arith, e), own)
      go X l u (no q) =
          let o = A.stored X l (omega (arith, u, q)) in
          (o.0, omega (arith, o.1, e), stored_kept before after X o.0 x at k (omega (arith, u, q)) m o.1 o.2)

  pub all_stored : (choices : List ℕ) (x at : ℕ) → AllStored items rules heights choices x at → at ≤ 128 → 640 ≤ length choices
      → (g : Grammar) → Source items rules g → HoldsHeights g heights → 64 + g.nonterminals ≤ x → HoldsChoices g choices
  all_stored choices x at A f room g e h l = record {
    formed = e.formed;
    productive = e.productive;
    room = room;
    height_is = (heights_held choices A.height_kept g e h).height_is;
    start_in = λ X n. let o = of X n in omega (arith, o.2.start_is, o.1, ap length (rows X), f);
    count_is = λ X n. (of X n).2.count_is ∙ ap length (sym (rows X));
    rule_is = λ X k n u.
        let o = of X n in
        ap (λ (start : ℕ). listed_at choices (start + k)) o.2.start_is
        ∙ (o.2.rule_is k (rw (rows X) at u) ∙ ap (λ (l : List ℕ). get_or l k 0) (sym (rows X)));
    shortest_is = λ X n. (of X n).2.shortest_is g e h n;
  }
    where
      rows : (X : ℕ) → rules_of g X ≡ rows_of items X 1 rules
      rows X = rows_are items rules g X e.holds

      of : (X : ℕ) → IsNonterminal g X → (start : ℕ) × (start + length (rows_of items X 1 rules) ≤ at) × Stored items rules heights choices X start
      of X n = A.stored X n.0 (omega (arith, n.1, l))
