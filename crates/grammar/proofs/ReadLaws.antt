-- What a caller learns of a book that is read into memory with room for it.
use Prim.Native.Nat.{ℕ, ◌≤◌}
use mathlib.Core.Path.{◌≡◌, sym, ap, subst, ◌∙◌}
use mathlib.Core.List.{List}
use lib.ListN.{length}
use Rattle.language.specs.Grammar.{Grammar}
use Rattle.items.specs.Layout.{layout}
use Rattle.reply.specs.declared.Refusal.{Refusal}
use Rattle.grammar_header.specs.declared.Heading.{Heading}
use Rattle.grammar.specs.declared.GrammarReply.{GrammarReply}
use Rattle.grammar.specs.declared.GrammarReply.TheVariants as reply
use Rattle.grammar.specs.Book.{Book, accepted, rejected, grammar_of}
use Rattle.grammar.specs.Memory.{reply_of, read_of, memory_of, HoldsGrammar}
use Rattle.grammar.proofs.GrammarLaws.{accepted_reduced}
use Rattle.grammar.proofs.IntoLaws.{is_accepted, is_rejected, long_enough}

-- a book that gives a grammar with this heading, which is in memory
pub record ReadAs (gs : List ℕ) (h : Heading) (m : List ℕ) : Type 0 where
  pub grammar : Grammar
  pub book_is : grammar_of gs ≡ accepted grammar
  pub holds : HoldsGrammar m h grammar

module _ (gs : List ℕ) (size : ℕ) (room : 8192 ≤ size) where
  by_book : {r : GrammarReply} → r ≡ reply_of (read_of gs size) → r ≡ reply_of (grammar_of gs)
  by_book e = e ∙ ap reply_of (long_enough gs size room)

  pub read_as : {r : GrammarReply} {h : Heading} {m : List ℕ} → r ≡ reply_of (read_of gs size) → length m ≡ size → m ≡ memory_of (read_of gs size) size → r ≡ reply.Read h
      → ReadAs gs h m
  read_as {m = m} answered long stored e =
      let b = is_accepted (grammar_of gs) (sym (by_book answered) ∙ e) in
      record {
        grammar = b.0;
        book_is = b.1;
        holds = record {
          formed = (accepted_reduced gs b.0 b.1).formed;
          laid = stored ∙ ap (λ (x : Book). memory_of x size) (long_enough gs size room ∙ b.1) ∙ ap (layout b.0) (sym long);
          room = subst (λ (k : ℕ). 8192 ≤ k) (sym long) room;
          heading = b.2;
        };
      }

  pub read_refused : {r : GrammarReply} {why : Refusal} → r ≡ reply_of (read_of gs size) → r ≡ reply.Refused why → grammar_of gs ≡ rejected why
  read_refused answered e = is_rejected (grammar_of gs) (sym (by_book answered) ∙ e)
