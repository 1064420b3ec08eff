-- After a table book was read whole, memory is what the check asks of it, and what a walk is promised.
use Prim.Native.Nat.{ℕ, suc, ◌+◌, ◌≤◌}
use native.Mathlib.Omega.{arith}
use mathlib.Core.Path.{◌≡◌, refl, sym, subst}
use mathlib.Core.Bool.{true}
use mathlib.Core.List.{List}
use lib.ListN.{length}
use Rattle.language.specs.Grammar.{Grammar}
use Rattle.language.specs.WellFormed as language
use Rattle.leftcorner.specs.Table.{Table}
use Rattle.items.specs.Layout.{Shaped}
use Rattle.memory.specs.Memory.{HoldsItems}
use Rattle.memory.specs.Fits.{Fits}
use Rattle.memory.specs.Held.{HoldsTable}
use Rattle.check_items.specs.Items.{HoldsNamed}
use Rattle.check_memory.specs.Given.{TableRoom, Given}
use Rattle.table_lines.proofs.ImageLaws.{image_long}
use Rattle.table.specs.Book.{whole}
use Rattle.table.specs.Memory.{Slices, has_room, SlicesRoom, Holds}
use Rattle.table.proofs.IntoLaws.{rooms_tell}
use Rattle.check_views.proofs.Items as items
use Rattle.check_views.proofs.Kernels as kernels
use Rattle.check_views.proofs.Cells as cells
use Rattle.check_views.proofs.Entries as entries

module _ {g : Grammar} {t : Table} {b a : Slices} (h : Holds (whole g t) b a) where
  -- cells and gotos are as long as what was lent for them
  cells_long : (length a.kinds ≡ length b.kinds) × (length a.values ≡ length b.values) × (length a.gotos ≡ length b.gotos)
  cells_long = (image_long _ _ h.kinds_are, image_long _ _ h.values_are, image_long _ _ h.gotos_are)

  module _ (roomy : has_room b ≡ true) (W : language.WellFormed g) (F : Fits g t) where
    rooms : SlicesRoom b
    rooms = rooms_tell b roomy

    pub held : HoldsTable g t a.items a.states a.kernels a.lookaheads a.kinds a.values a.gotos (length g.rules) (length t.entries) (length t.kernels)
    held = record {
      formed = W;
      fits = F;
      holds_items = subst (λ (m : List ℕ). HoldsItems m g t) (sym h.items_are) (items.holds_items g t W F (length b.items) rooms.items_room);
      holds_entries = entries.holds_entries g t F (length b.states) rooms.states_room h.states_are;
      holds_kernels = kernels.holds_kernels g t W F (length b.kernels) (length b.lookaheads) rooms.kernels_room rooms.lookaheads_room h.kernels_are h.lookaheads_are;
      holds_actions =
          cells.holds_actions t (length b.kinds) (length b.values) (length b.gotos) rooms.kinds_room rooms.values_room rooms.gotos_room
          h.kinds_are h.values_are h.gotos_are;
      rule_count = refl;
      entry_count = refl;
      line_count = refl;
    }

    pub holds_named : HoldsNamed a.named g t
    holds_named = entries.holds_named g t F (length b.named) rooms.named_room h.named_are

    pub sized : 1 ≤ length t.entries
        → TableRoom a.items a.states a.kernels a.lookaheads a.kinds a.values a.gotos a.named
        (length g.rules + length t.entries) (length g.rules) (length t.entries) (length t.kernels)
    sized some = record {
      all_items = refl;
      shaped =
          subst (λ (m : List ℕ). Shaped m (length g.rules + length t.entries)) (sym h.items_are)
          (items.items_shaped g t W F (length b.items) rooms.items_room);
      some_lines = kernels.kernel_lines g t W F (length b.kernels) (length b.lookaheads) rooms.kernels_room rooms.lookaheads_room h.kernels_are h.lookaheads_are;
      cells_room = record {
        kinds_room = omega (arith, rooms.kinds_room, cells_long.0);
        values_room = omega (arith, rooms.values_room, cells_long.1);
        gotos_room = omega (arith, rooms.gotos_room, cells_long.2);
      };
      codes_room = kernels.codes_room g t W F (length b.kernels) (length b.lookaheads) rooms.kernels_room rooms.lookaheads_room h.kernels_are h.lookaheads_are;
      entries_room = omega (arith, rooms.states_room, image_long _ _ h.states_are);
      named_room = omega (arith, rooms.named_room, image_long _ _ h.named_are);
      few_rules = W.few_rules;
      some_strings = some;
      few_strings = F.few_entries;
    }

    pub given : Given g t a.items a.states a.kernels a.lookaheads a.kinds a.values a.gotos a.named
        (length g.rules) (length t.entries) (length t.kernels) t.states (suc g.terminals)
    given = record { held = held; holds_named = holds_named; state_count = refl; code_count = refl }
