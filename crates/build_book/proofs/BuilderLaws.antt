-- What the builder (specs/Builder.antt) replies and writes: a book that it writes meets the construction and is accepted.
use Prim.Native.Nat.{ℕ, ◌≤◌, ◌<◌}
use mathlib.Core.Path.{◌≡◌, refl, sym, ap, subst, ◌∙◌}
use mathlib.Core.Logic.{◌⊎◌, inl, inr}
use mathlib.Core.List.{List}
use lib.ListN.{length}
use Rattle.language.specs.Grammar.{Grammar, IsTerminal, IsNonterminal}
use Rattle.language.specs.Derivation.{yields}
use Rattle.language.specs.Sentence.{Reachable, Productive, AllProductive}
use Rattle.language.specs.First.{First, next}
use Rattle.language.proofs.FirstLaws.{right_productive, terminal_productive}
use Rattle.language.proofs.Strings.{AllDeclared, string_derives}
use Rattle.language.specs.WellFormed as grammar
use Rattle.leftcorner.specs.Construction.{WellFormed, CellsAgree, MeetsWith, Meets}
use Rattle.std.specs.Prelude.{◌↔◌}
use Rattle.leftcorner.proofs.Swap.{swap}
use Rattle.analysis.specs.ByRules.{FirstByRules}
use Rattle.analysis.proofs.RuleSets.{first_rules, rules_first}
use Rattle.analysis.proofs.Decided.{first?}
use Rattle.reply.specs.declared.Kind.TheVariants.{LimitExceeded, Conflict}
use Rattle.reply.specs.declared.Reply.TheVariants.{Accepted}
use Rattle.check_verdict.proofs.EntriesDecided.{entries?}
use Rattle.check_verdict.proofs.ItemsDecided.{items?}
use Rattle.check_verdict.proofs.LookaheadsDecided.{lookaheads?}
use Rattle.check_verdict.proofs.CellsDecided.{agree?, cells?}
use Rattle.check_verdict.specs.Verdict.{verdict, refused}
use Rattle.check_verdict.proofs.VerdictLaws.{accepts}
use Rattle.build_states.specs.States.{states}
use Rattle.build_states.proofs.Limits.{Limits, declared}
use Rattle.build_book.specs.Built.{items, built}
use Rattle.build_book.proofs.BuiltForm.{built_form}
use Rattle.build_book.specs.Text.{table_text}
use Rattle.build_book.specs.Book.{text_reply, text_slice, build_slice}
use Rattle.build_book.proofs.Readable.{Readable, readable}
use Rattle.build_book.proofs.BookLaws.{Within, limits, text_is, refuses_many, refuses_conflict, past_conflicts, accepted_writes, book_meets, conflict_actions}
use Rattle.build_book.proofs.Conflicts.{TwoActions}
use Rattle.build_states.specs.Lookaheads.{terminal_codes}
use Rattle.build_states.proofs.CodeLaws.{first_in, codes_low}
use Rattle.build_book.specs.Builder.{builder_table, builder_reply, builder_slice}

module _ (g : Grammar) where
  abbrev Agree : ℕ → Type 0
  Agree q = CellsAgree g (items g (FirstByRules g) (first? g) (terminal_codes g) (first_in g)) (FirstByRules g) q

  abbrev text : List ℕ
  text = table_text (built g (FirstByRules g) (first? g) (terminal_codes g) (first_in g))

  pub replies_many : (room : ℕ) → (Within g → ⊥) → builder_reply g room ≡ refused LimitExceeded 0
  unfolding builder_reply
  replies_many room f = refuses_many g (FirstByRules g) (first? g) (terminal_codes g) (first_in g) room f

  pub replies_conflict : (room q : ℕ) → Within g → q ≤ length (states g) → (Agree q → ⊥) → ((k : ℕ) → k < q → Agree k) → builder_reply g room ≡ refused Conflict q
  unfolding builder_reply
  replies_conflict room q w l f h = refuses_conflict g (FirstByRules g) (first? g) (terminal_codes g) (first_in g) room q w l f h

  pub replies_text : (room : ℕ) → Within g → ((q : ℕ) → Agree q) → builder_reply g room ≡ text_reply text room
  unfolding builder_reply
  replies_text room w h =
      past_conflicts g (FirstByRules g) (first? g) (terminal_codes g) (first_in g) room w h
      ∙ ap (λ (l : List ℕ). text_reply l room) (text_is g (FirstByRules g) (first? g) (terminal_codes g) (first_in g))

  pub slice_text : (room : ℕ) → builder_slice g room ≡ text_slice text room (builder_reply g room)
  unfolding builder_slice builder_reply build_slice
  slice_text room = ap (λ (l : List ℕ). text_slice l room (builder_reply g room)) (text_is g (FirstByRules g) (first? g) (terminal_codes g) (first_in g))

  pub table_text_lem : table_text (builder_table g) ≡ text
  unfolding builder_table
  table_text_lem = refl

  pub writes_fit : (room : ℕ) → builder_reply g room ≡ Accepted 0 → length (table_text (builder_table g)) ≤ 65536
  unfolding builder_reply
  writes_fit room e =
      let z = (accepted_writes g (FirstByRules g) (first? g) (terminal_codes g) (first_in g) room e).fits in
      subst (λ (l : List ℕ). length l ≤ 65536) (text_is g (FirstByRules g) (first? g) (terminal_codes g) (first_in g) ∙ sym table_text_lem) z

  -- ---- where every nonterminal is productive and reached

  module _ (W : grammar.WellFormed g) (P : AllProductive g) (reach : (X : ℕ) → IsNonterminal g X → Reachable g X) where
    first_some : (β : List ℕ) → AllDeclared g β → (d : ℕ) → (c : ℕ) × FirstByRules g β d c
    first_some β a d =
        let f = string_derives g P β a in
        let h : First g β d (next (yields f.0) d) = record { forest = f.0; derives = f.1; begins = refl } in
        (next (yields f.0) d, first_rules g h)

    symbol_productive : {X : ℕ} → IsTerminal g X ⊎ IsNonterminal g X → Productive g X
    symbol_productive (inl h) = terminal_productive g h
    symbol_productive {X = X} (inr h) = P X h

    pub same_first : (β : List ℕ) → AllDeclared g β → (d c : ℕ) → FirstByRules g β d c ↔ First g β d c
    same_first β a d c = (λ h. rules_first g (right_productive g W P) (λ X m. symbol_productive (a X m)) h, λ h. first_rules g h)

    -- where the limits are kept, the book has the form of a table book
    pub builder_form : Limits g → WellFormed g (built g (FirstByRules g) (first? g) (terminal_codes g) (first_in g))
    builder_form L = built_form g (FirstByRules g) (first? g) (terminal_codes g) (first_in g) L (codes_low g) first_some reach

    module _ (room : ℕ) (written : builder_reply g room ≡ Accepted 0) where
      writes_by_rules : MeetsWith g (builder_table g) (FirstByRules g)
      unfolding builder_table builder_reply
      writes_by_rules = book_meets g (FirstByRules g) (first? g) (terminal_codes g) (first_in g) W (codes_low g) first_some reach room written

      -- the book meets the construction
      pub writes_meets : Meets g (builder_table g)
      writes_meets = (swap g (builder_table g) (declared g W) (FirstByRules g) (First g) same_first).0 writes_by_rules

      -- its lines are as a table reader asks
      pub writes_readable : Readable g (builder_table g)
      unfolding builder_table builder_reply
      writes_readable =
          readable g (FirstByRules g) (first? g) (terminal_codes g) (first_in g)
          (limits g W (accepted_writes g (FirstByRules g) (first? g) (terminal_codes g) (first_in g) room written).within) (codes_low g) writes_by_rules.form

      -- "its books are always accepted"
      pub writes_accepted : verdict g (builder_table g) (FirstByRules g) (entries? g (builder_table g)) (items? g (builder_table g))
          (lookaheads? g (builder_table g) (FirstByRules g) (first? g) (terminal_codes g) (first_in g)) (agree? g (builder_table g) (FirstByRules g) (first? g) (terminal_codes g) (first_in g))
          (cells? g (builder_table g) (FirstByRules g) (first? g) (terminal_codes g) (first_in g)) ≡ Accepted 0
      writes_accepted = accepts g (builder_table g) (FirstByRules g) (entries? g (builder_table g)) (items? g (builder_table g))
          (lookaheads? g (builder_table g) (FirstByRules g) (first? g) (terminal_codes g) (first_in g)) (agree? g (builder_table g) (FirstByRules g) (first? g) (terminal_codes g) (first_in g))
          (cells? g (builder_table g) (FirstByRules g) (first? g) (terminal_codes g) (first_in g)) writes_by_rules

  -- where it refuses 9, a cell of that state would hold two different actions
  pub refused_conflict : grammar.WellFormed g → (room q : ℕ) → builder_reply g room ≡ refused Conflict q → TwoActions g (FirstByRules g) (first? g) (terminal_codes g) (first_in g) q
  unfolding builder_reply
  refused_conflict W room q e = conflict_actions g (FirstByRules g) (first? g) (terminal_codes g) (first_in g) W (codes_low g) room q e
