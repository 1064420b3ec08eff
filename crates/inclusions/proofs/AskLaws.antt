-- What lines, moves, groups and items ask, put together.
use Prim.Native.Nat.{ℕ, suc, ◌+◌, ◌*◌, ◌-◌, ◌≤◌, ◌<◌}
use mathlib.Core.Path.{◌≡◌, sym, ap, subst, subst₂, ◌∙◌}
use mathlib.Core.Logic.{◌⊎◌, inl, inr}
use mathlib.Core.List.{List}
use native.Mathlib.Decide.{dec_lt}
use native.Mathlib.Omega.{arith}
use lib.ListN.{get_or, replicate}
use Rattle.items.specs.Layout.{left_at, length_at, mark_at}
use Rattle.fixpoint.specs.Flags.{On}
use Rattle.fixpoint.proofs.PassLaws.{all_off}
use Rattle.memory.specs.Memory.{item_at, dot_at}
use Rattle.analysis.specs.FirstBy.{first_low}
use Rattle.analysis.specs.Adds.{Adds}
use Rattle.closure.specs.Kernel.{OfLine}
use Rattle.analysis.proofs.AddLaws.{adds_map, adds_then}
use Rattle.item_first.specs.Rows.{FirstsAt, RowOf}
use Rattle.item_first.specs.Rows as rows
use Rattle.item_first.proofs.FirstLaws.{at_zero}
use Rattle.item_groups.specs.Groups.{GroupEnd}
use Rattle.inclusions.specs.Groups.{group_end, group_from, group_begin}
use Rattle.inclusions.specs.Asks.{LinesAsk, MoveAsks, GroupAsks, GroupsAsk, ItemAsks, by_move, by_group, KernelAsks, RulesAsk, StateAsks}
use Rattle.closure.proofs.AddingLaws.{Adding, adding_none, adding_then, adds_all}
use Rattle.inclusions.proofs.GroupLaws.{end_found, group_next, group_order}

-- ---- a group
module _ {items kernels entries nul fst from : List ℕ} {rules lines codes i b e start : ℕ} where
  pub group_row : {row₀ row fs fs' : List ℕ} {s : ℕ} → (e ≡ 0 → ⊥) → s ≡ get_or entries e 0 → row₀ ≡ replicate 64 0
      → Adds (FirstsAt items codes nul fst from start i b) row₀ row → Adds (LinesAsk kernels row lines codes s (rules + e) 0 0) fs fs'
      → Adds (GroupAsks items kernels entries nul fst from rules lines codes i b e start) fs fs'
  group_row {row₀} {row} {s = s} n is-s none a w = adds_map to_group of_group w
    where
      flagged : (c : ℕ) → On row₀ c ⊎ FirstsAt items codes nul fst from start i b c → FirstsAt items codes nul fst from start i b c
      flagged c (inl on) = all_off 64 none on
      flagged c (inr f) = f

      to_group : (y : ℕ) → LinesAsk kernels row lines codes s (rules + e) 0 0 y → GroupAsks items kernels entries nul fst from rules lines codes i b e start y
      to_group y h = record {
        some_entry = n;
        line = h.line;
        is_line = record { within = h.within; state = h.state ∙ is-s; item = h.holds.item; dot = h.holds.dot };
        code = h.holds.row.code;
        first = flagged h.holds.row.code (a.only h.holds.row.code (subst (On row) (at_zero h.holds.row.code) h.holds.row.on));
        is = h.holds.row.is;
      }

      of_group : (y : ℕ) → GroupAsks items kernels entries nul fst from rules lines codes i b e start y → LinesAsk kernels row lines codes s (rules + e) 0 0 y
      of_group y h = record {
        line = h.line;
        within = h.is_line.within;
        state = h.is_line.state ∙ sym is-s;
        holds = record {
          item = h.is_line.item;
          dot = h.is_line.dot;
          row = record {
            code = h.code;
            low = first_low codes nul fst h.first.low h.first.first;
            on = subst (On row) (sym (at_zero h.code)) (a.every h.code h.first);
            is = h.is;
          };
        };
      }

-- ---- the groups of a rule, of which those below j are done
pub record GroupsTo (items kernels entries uses nul fst from : List ℕ) (rules lines codes i start : ℕ) (fs₀ fs : List ℕ) (a j : ℕ) : Type 0 where
  pub at : a ≡ group_begin items i j
  pub few : j ≤ a
  pub adding : Adding (GroupsAsk items kernels entries uses nul fst from rules lines codes i start) fs₀ fs
  pub passed : (m : ℕ) → m < j → (y : ℕ)
      → GroupAsks items kernels entries nul fst from rules lines codes i (group_begin items i (suc m)) (get_or uses (i * 16 + m) 0) start y → On fs y

module _ {items kernels entries uses nul fst from : List ℕ} {rules lines codes i start : ℕ} where
  pub groups_start : (fs : List ℕ) {a : ℕ} → a ≡ mark_at items i → GroupsTo items kernels entries uses nul fst from rules lines codes i start fs fs a 0
  unfolding group_from
  groups_start fs e = record { at = e; few = omega arith; adding = adding_none fs; passed = λ m l. absurd (omega arith) }

  pub groups_more : {fs₀ fs fs' : List ℕ} {a b e j m : ℕ} → GroupsTo items kernels entries uses nul fst from rules lines codes i start fs₀ fs a j
      → a < length_at items i → GroupEnd items i a b → e ≡ get_or uses (i * 16 + j) 0 → m ≡ j + 1
      → Adds (GroupAsks items kernels entries nul fst from rules lines codes i b e start) fs fs'
      → GroupsTo items kernels entries uses nul fst from rules lines codes i start fs₀ fs' b m
  groups_more {fs₀} {fs} {fs'} {a} {b} {e} {j} {m} h l u is-e is_m w =
      subst (GroupsTo items kernels entries uses nul fst from rules lines codes i start fs₀ fs' b) (let z : suc j ≡ m = omega arith in z) (record {
        at = next;
        few = omega (arith, h.few, u.past);
        adding = adding_then h.adding (λ y g. record { group = j; begins = subst (λ (x : ℕ). x < length_at items i) h.at l; asks = g }) here;
        passed = λ n ln y. go n ln y (dec_lt n j);
      })
    where
      next : b ≡ group_begin items i (suc j)
      next = end_found items i l u ∙ (ap (group_end items i) h.at ∙ sym (group_next items i (mark_at items i) j))

      here : Adds (GroupAsks items kernels entries nul fst from rules lines codes i (group_begin items i (suc j)) (get_or uses (i * 16 + j) 0) start) fs fs'
      here = subst₂ (λ (x y : ℕ). Adds (GroupAsks items kernels entries nul fst from rules lines codes i x y start) fs fs') next is-e w

      go : (n : ℕ) → n < suc j → (y : ℕ) → Dec (n < j) → GroupAsks items kernels entries nul fst from rules lines codes i (group_begin items i (suc n)) (get_or uses (i * 16 + n) 0) start y → On fs' y
      go n ln y (yes v) o = here.kept y (h.passed n v y o)
      go n ln y (no v) o = here.every y (subst (λ (x : ℕ). GroupAsks items kernels entries nul fst from rules lines codes i (group_begin items i (suc x)) (get_or uses (i * 16 + x) 0) start y) (let z : n ≡ j = omega arith in z) o)

  pub groups_all : {fs₀ fs : List ℕ} {a j : ℕ} → GroupsTo items kernels entries uses nul fst from rules lines codes i start fs₀ fs a j → length_at items i ≤ a
      → Adds (GroupsAsk items kernels entries uses nul fst from rules lines codes i start) fs₀ fs
  groups_all {fs = fs} {a = a} {j = j} h l = adds_all h.adding (λ y o. go y o.group o.begins o.asks (dec_lt o.group j))
    where
      go : (y m : ℕ) → group_begin items i m < length_at items i
          → GroupAsks items kernels entries nul fst from rules lines codes i (group_begin items i (suc m)) (get_or uses (i * 16 + m) 0) start y
          → Dec (m < j) → On fs y
      go y m u o (yes v) = h.passed m v y o
      go y m u o (no v) = absurd (omega (arith, u, h.at, group_order items i (mark_at items i) j m (omega arith)))

-- ---- an item
module _ {items kernels kinds values gotos entries uses nul fst from : List ℕ} {rules lines codes p i k start : ℕ} {fs₀ fs : List ℕ}
    (a : Adds (MoveAsks items kernels kinds values gotos from lines codes p i k start) fs₀ fs) where
  pub item_groups : {fs' : List ℕ} → i ≤ rules → mark_at items i ≡ k → Adds (GroupsAsk items kernels entries uses nul fst from rules lines codes i start) fs fs'
      → Adds (ItemAsks items kernels kinds values gotos entries uses nul fst from rules lines codes p i k start) fs₀ fs'
  item_groups l e b = adds_map up down (adds_then a b)
    where
      up : (y : ℕ) → MoveAsks items kernels kinds values gotos from lines codes p i k start y
          ⊎ GroupsAsk items kernels entries uses nul fst from rules lines codes i start y
          → ItemAsks items kernels kinds values gotos entries uses nul fst from rules lines codes p i k start y
      up y (inl h) = by_move h
      up y (inr h) = by_group l e h

      down : (y : ℕ) → ItemAsks items kernels kinds values gotos entries uses nul fst from rules lines codes p i k start y
          → MoveAsks items kernels kinds values gotos from lines codes p i k start y
          ⊎ GroupsAsk items kernels entries uses nul fst from rules lines codes i start y
      down y (by_move h) = inl h
      down y (by_group l e h) = inr h

-- ---- a line
pub line_item : {items kernels lookaheads kinds values gotos entries uses nul fst : List ℕ} {rules lines codes p : ℕ} {fs fs' : List ℕ} (l : ℕ) {i k : ℕ}
    → i ≡ item_at kernels l → k ≡ dot_at kernels l
    → Adds (ItemAsks items kernels kinds values gotos entries uses nul fst lookaheads rules lines codes p i k (l * 64)) fs fs'
    → Adds (KernelAsks items kernels lookaheads kinds values gotos entries uses nul fst rules lines codes p l) fs fs'
line_item {items} {kernels} {lookaheads} {kinds} {values} {gotos} {entries} {uses} {nul} {fst} {rules} {lines} {codes} {p} {fs} {fs'} l ei ek a =
    subst₂ (λ (j n : ℕ). Adds (ItemAsks items kernels kinds values gotos entries uses nul fst lookaheads rules lines codes p j n (l * 64)) fs fs') ei ek a

-- ---- a state
module _ {items kernels lookaheads kinds values gotos entries uses nul fst present follow : List ℕ} {rules lines codes p : ℕ} where
  pub state_all : {fs fs' fs'' : List ℕ} → Adds (OfLine (KernelAsks items kernels lookaheads kinds values gotos entries uses nul fst rules lines codes p) kernels lines p) fs fs'
      → Adds (RulesAsk items kernels kinds values gotos entries uses nul fst present follow rules lines codes p) fs' fs''
      → Adds (StateAsks items kernels lookaheads kinds values gotos entries uses nul fst present follow rules lines codes p) fs fs''
  state_all a b = adds_map up down (adds_then a b)
    where
      up : (y : ℕ) → OfLine (KernelAsks items kernels lookaheads kinds values gotos entries uses nul fst rules lines codes p) kernels lines p y
          ⊎ RulesAsk items kernels kinds values gotos entries uses nul fst present follow rules lines codes p y
          → StateAsks items kernels lookaheads kinds values gotos entries uses nul fst present follow rules lines codes p y
      up y (inl h) = record { item = item_at kernels h.line; dot = dot_at kernels h.line; from = lookaheads; start = h.line * 64; row = rows.of_line h.line h.within h.state; asks = h.holds }
      up y (inr h) = record { item = h.rule; dot = 0; from = follow; start = (left_at items h.rule - 64) * 64; row = rows.of_rule h.rule h.above h.below h.here; asks = h.asks }

      go : {i k start : ℕ} {from : List ℕ} (y : ℕ) → RowOf items kernels lookaheads present follow rules lines p i k from start
          → ItemAsks items kernels kinds values gotos entries uses nul fst from rules lines codes p i k start y
          → OfLine (KernelAsks items kernels lookaheads kinds values gotos entries uses nul fst rules lines codes p) kernels lines p y
          ⊎ RulesAsk items kernels kinds values gotos entries uses nul fst present follow rules lines codes p y
      go y (rows.of_line l low e) h = inl (record { line = l; within = low; state = e; holds = h })
      go y (rows.of_rule i u v pr) h = inr (record { rule = i; above = u; below = v; here = pr; asks = h })

      down : (y : ℕ) → StateAsks items kernels lookaheads kinds values gotos entries uses nul fst present follow rules lines codes p y
          → OfLine (KernelAsks items kernels lookaheads kinds values gotos entries uses nul fst rules lines codes p) kernels lines p y
          ⊎ RulesAsk items kernels kinds values gotos entries uses nul fst present follow rules lines codes p y
      down y h = go y h.row h.asks
