-- The builder's kernel sets, lists of numbers, as lists of items: what they hold and what moves from them is what `Kernels` says.
use Prim.Native.Nat.{ℕ, zero, suc, ◌+◌, ◌*◌, ◌-◌, ◌≤◌}
use native.Mathlib.Omega.{arith}
use mathlib.Core.Path.{◌≡◌, refl, sym, ap, ap₂, subst, ◌∙◌}
use mathlib.Core.Logic.{◌⊎◌, inl, inr}
use mathlib.Core.Bool.{Bool, true, false, cond}
use mathlib.Core.List.{List, [], ◌∷◌, map}
use mathlib.Core.Option.{Option, some, none}
use borrow.Author.Tests.{le-leb, lt-leb}
use lib.Dec.{leb}
use lib.ListN.{length, drop}
use Rattle.language.specs.Grammar.{Grammar, Rule, rule_at}
use Rattle.language.specs.Sentence.{In}
use Rattle.language.specs.WellFormed as grammar
use Rattle.language.proofs.Member.{in_map}
use Rattle.language.proofs.GrammarLaws.{rule_range}
use Rattle.language.specs.Rising.{RisingFrom}
use Rattle.language.proofs.Rising.{rising_in, rising_same}
use Rattle.leftcorner.specs.Table as table
use Rattle.leftcorner.specs.Table.{EntryLine, entry_at, entry_from, string_of, right_of, mark_of, symbols_of, recognition_point}
use Rattle.leftcorner.specs.Construction as construction
use Rattle.leftcorner.specs.Construction.{entry_item, EntryAt, MovedBy}
use Rattle.std.specs.Prelude.{◌↔◌}
use Rattle.check_verdict.proofs.Closure.{image_in}
use Rattle.build_states.specs.Strings.{entry_strings}
use Rattle.build_states.proofs.EntryLaws.{entry_line, entry_number}
use Rattle.build_states.specs.States.{Kernel, item_of, dot_of, alone, move}
use Rattle.build_book.proofs.Once.{Once}
use Rattle.build_states.proofs.Limits.{bounded, symbols_item}
use Rattle.build_book.proofs.Over.{goes_over}
use Rattle.build_states.proofs.MoveLaws.{item_of_lem, dot_of_lem, alone_line, line_alone, move_only, in_move, moved_dot}
use Rattle.build_states.specs.Lookaheads.{bare}
use Rattle.build_promise.specs.Kernels.{Item, rule, entry, Dotted, dot, Same, symbols, point, item_at, Goes, Has, in_kernel, in_closure, Moved, moved}
use Rattle.build_promise.proofs.Counting.{once_map}

module _ (g : Grammar) where
  abbrev rules : ℕ
  rules = length g.rules

  abbrev pub source : ℕ → Item
  source i = item_at g (bare g) i

  abbrev pub dotted : ℕ → Dotted
  dotted x = dot (source (item_of x)) (dot_of x)

  abbrev pub items : Kernel → List Dotted
  items k = map dotted k

  -- and back
  abbrev item_number : Item → ℕ
  item_number (rule i) = i
  item_number (entry γ) = rules + entry_from 1 (bare g).entries γ

  abbrev number : Dotted → ℕ
  number (dot ι k) = item_number ι * 16 + k

  -- an item that is a rule or an entry
  abbrev pub Known : ℕ → Type 0
  Known i = item_number (source i) ≡ i

  pub source-rule : (j : ℕ) {r : Rule} → rule_at g j ≡ some r → source j ≡ rule j
  source-rule j e = ap (λ (b : Bool). cond b (rule j) (entry (string_of (entry_at (bare g) (j - rules))))) (le-leb j rules (rule_range g j e).1)

  pub source-entry : (e : ℕ) {s : ℕ} {γ : List ℕ} → EntryAt g (bare g) e s γ → source (rules + e) ≡ entry γ
  source-entry e {s = s} {γ = γ} h =
      let l = entry_line g (bare g) refl e h in
      let z : rules + e - rules ≡ e = omega arith in
      ap (λ (b : Bool). cond b (rule (rules + e)) (entry (string_of (entry_at (bare g) (rules + e - rules))))) (lt-leb (rules + e) rules (omega (arith, l.1)))
      ∙ ap (λ (n : ℕ). entry (string_of (entry_at (bare g) n))) z ∙ ap (λ (o : Option EntryLine). entry (string_of o)) h

  known_rule : (j : ℕ) {r : Rule} → rule_at g j ≡ some r → Known j
  known_rule j e = ap item_number (source-rule j e)

  pub known_entry : (e : ℕ) {s : ℕ} {γ : List ℕ} → EntryAt g (bare g) e s γ → Known (rules + e)
  known_entry e h = ap item_number (source-entry e h) ∙ ap (λ (n : ℕ). rules + n) (entry_number g (bare g) refl e h)

  number_back : (x : ℕ) → Known (item_of x) → number (dotted x) ≡ x
  number_back x h = let z : item_number (source (item_of x)) * 16 + dot_of x ≡ x = omega (arith, h) in z

  -- ---- what an item is

  symbols_same : (i : ℕ) → symbols g (source i) ≡ symbols_of g (bare g) i
  symbols_same i = go (leb i rules) (string_of (entry_at (bare g) (i - rules)))
    where
      go : (b : Bool) (γ : List ℕ) → symbols g (cond b (rule i) (entry γ)) ≡ cond b (right_of (rule_at g i)) γ
      go true γ = refl
      go false γ = refl

  point_same : (i : ℕ) → point g (source i) ≡ recognition_point g (bare g) i
  point_same i = go (leb i rules) (string_of (entry_at (bare g) (i - rules)))
    where
      go : (b : Bool) (γ : List ℕ) → point g (cond b (rule i) (entry γ)) ≡ cond b (mark_of (rule_at g i)) none
      go true γ = refl
      go false γ = refl

  -- ---- what a kernel set holds

  module _ (k : Kernel) where
    goes_to_lem : {i n X : ℕ} {β : List ℕ} → table.Goes g (alone g k) i n X β → Goes g (source i) n X
    goes_to_lem {i = i} {n = n} {β = β} h = record {
      rest = β;
      before = ap (drop n) (symbols_same i) ∙ (goes_over g (alone g k) (bare g) refl h).before;
      unmarked = λ e. h.unmarked (sym (point_same i) ∙ e);
    }

    goes_from : {i n X : ℕ} (h : Goes g (source i) n X) → table.Goes g (alone g k) i n X h.rest
    goes_from {i = i} {n = n} h =
        goes_over g (bare g) (alone g k) refl
        (record { before = sym (ap (drop n) (symbols_same i)) ∙ h.before; unmarked = λ e. h.unmarked (point_same i ∙ e) })

    has_to : {i n : ℕ} → construction.Has g (alone g k) 1 i n → Has g (items k) (source i) n
    has_to {i = i} {n = n} (construction.in_kernel m) =
        let a = alone_line g m in
        in_kernel (subst (λ (d : Dotted). In d (items k)) (sym (ap₂ (λ (j p : ℕ). dot (source j) p) a.2 a.3)) (image_in dotted a.0 k a.1))
    has_to (construction.in_closure j h go e l) = subst (λ (ι : Item). Has g (items k) ι zero) (sym (source-rule j e)) (in_closure j (has_to h) (goes_to_lem go) e l)

    has_from : {ι : Item} {n : ℕ} → Has g (items k) ι n → (i : ℕ) × (source i ≡ ι) × construction.Has g (alone g k) 1 i n
    has_from {ι = ι} {n = n} (in_kernel m) =
        let r = in_map dotted k m in
        let q = r.2 in
        let a : source (item_of r.0) ≡ ι = cc in
        let b : dot_of r.0 ≡ n = cc in
        (item_of r.0, a, subst (λ (p : ℕ). construction.Has g (alone g k) 1 (item_of r.0) p) b (construction.in_kernel (line_alone g r.1)))
    has_from (in_closure {k = p} {X = X} j h go e l) =
        let r = has_from h in
        (j, source-rule j e, construction.in_closure j r.2 (goes_from (subst (λ (κ : Item). Goes g κ p X) (sym r.1) go)) e l)

    pub moved_to : {X i n : ℕ} → MovedBy g (alone g k) 1 X i n → Moved g (items k) X (dot (source i) n)
    moved_to (construction.moved h go) = moved (has_to h) (goes_to_lem go)

    pub moved_from : {X : ℕ} {a : Dotted} → Moved g (items k) X a → (i : ℕ) × (n : ℕ) × (a ≡ dot (source i) n) × MovedBy g (alone g k) 1 X i n
    moved_from {X = X} (moved {k = p} h go) =
        let r = has_from h in
        (r.0, suc p, ap (λ (ι : Item). dot ι (suc p)) (sym r.1), construction.moved r.2 (goes_from (subst (λ (κ : Item). Goes g κ p X) (sym r.1) go)))

  -- from sets of the same items the same moves
  module _ {H K : List Dotted} (same : Same H K) where
    has_over : {ι : Item} {n : ℕ} → Has g H ι n → Has g K ι n
    has_over {ι = ι} {n = n} (in_kernel m) = in_kernel ((same (dot ι n)).0 m)
    has_over (in_closure j h go e l) = in_closure j (has_over h) go e l

    pub moved_over : {X : ℕ} {a : Dotted} → Moved g H X a → Moved g K X a
    moved_over (moved h go) = moved (has_over h) go

  -- ---- kernel sets as lists of items

  -- a rising list of items that are rules or entries
  pub record Formed (k : Kernel) : Type 0 where
    pub rising : RisingFrom 0 k
    pub known : (x : ℕ) → In x k → Known (item_of x)

  one_number : (k h : Kernel) → Formed k → Formed h → (x y : ℕ) → In x k → In y h → dotted x ≡ dotted y → x ≡ y
  one_number k h f f' x y m n e = sym (number_back x (f.known x m)) ∙ ap number e ∙ number_back y (f'.known y n)

  rising_once : (a : ℕ) (l : List ℕ) → RisingFrom a l → Once ◌≡◌ l
  rising_once a [] r = tt
  rising_once a (x ∷ l) r = (λ y m e. omega (arith, rising_in (suc x) l y r.1 m, e), rising_once (suc x) l r.1)

  pub items_once : (k : Kernel) → Formed k → Once ◌≡◌ (items k)
  items_once k f = once_map ◌≡◌ ◌≡◌ dotted k (one_number k k f f) (rising_once 0 k f.rising)

  among : (k h : Kernel) → Formed k → Formed h → ((a : Dotted) → In a (items k) → In a (items h)) → (x : ℕ) → In x k → In x h
  among k h f f' up x m =
      let r = in_map dotted h (up (dotted x) (image_in dotted x k m)) in
      subst (λ (y : ℕ). In y h) (sym (one_number k h f f' x r.0 m r.1 r.2)) r.1

  pub items_apart : (k h : Kernel) → Formed k → Formed h → Same (items k) (items h) → k ≡ h
  items_apart k h f f' s = rising_same 0 0 k h f.rising f'.rising (among k h f f' (λ a. (s a).0)) (among h k f' f (λ a. (s a).1))

  -- ---- the moves, where the grammar was read and its entries are within the limit

  module _ (W : grammar.WellFormed g) (few : length (entry_strings g) ≤ 127) where
    pub moved_known : (k : Kernel) {X i n : ℕ} → MovedBy g (alone g k) 1 X i n → Known i
    moved_known k {i = i} (construction.moved h go) =
        let b = bounded g W (bare g) refl (goes_over g (alone g k) (bare g) refl go) in
        pick (symbols_item g W (bare g) refl i (omega (arith, b.within)))
      where
        pick : ((r : Rule) × (rule_at g i ≡ some r)) ⊎ ((j : ℕ) × (s : ℕ) × (γ : List ℕ) × (i ≡ entry_item g (bare g) j) × EntryAt g (bare g) j s γ) → Known i
        pick (inl h) = known_rule i h.1
        pick (inr h) = subst Known (sym h.3) (known_entry h.0 h.4)

    -- "exactly the moved items"
    pub move-items : (k : Kernel) (X : ℕ) (b : Dotted) → In b (items (move g k X)) ↔ Moved g (items k) X b
    move-items k X b = (to, from)
      where
        to : In b (items (move g k X)) → Moved g (items k) X b
        to m = let r = in_map dotted (move g k X) m in subst (Moved g (items k) X) (sym r.2) (moved_to k (move_only g k X r.0 r.1))

        from : Moved g (items k) X b → In b (items (move g k X))
        from h =
            let r = moved_from k h in
            let x = r.0 * 16 + r.1 in
            let l = moved_dot g W few k r.3 in
            subst (λ (d : Dotted). In d (items (move g k X)))
            (ap₂ (λ (i n : ℕ). dot (source i) n) (item_of_lem r.0 r.1 l) (dot_of_lem r.0 r.1 l) ∙ sym r.2)
            (image_in dotted x (move g k X) (in_move g W few k r.3))
