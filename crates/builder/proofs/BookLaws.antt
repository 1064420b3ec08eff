-- What is answered is the builder's reply, length and slice.
use Prim.Native.Nat.{ℕ, zero, suc, ◌+◌, ◌≤◌}
use native.Mathlib.Omega.{arith}
use mathlib.Core.Path.{◌≡◌, refl, sym, ap, subst, ◌∙◌}
use mathlib.Core.List.{List}
use mathlib.Core.Option.{some}
use lib.ListN.{length, replicate}
use Rattle.language.specs.Grammar.{Grammar, at}
use Rattle.leftcorner.specs.Table.{KernelLine}
use Rattle.leftcorner.specs.Construction.{WellFormed}
use Rattle.analysis.specs.ByRules.{FirstByRules}
use Rattle.analysis.proofs.Decided.{first?}
use Rattle.memory.specs.Memory.{HoldsKernels}
use Rattle.reply.specs.declared.Kind.TheVariants.{LimitExceeded, Conflict}
use Rattle.reply.specs.declared.Refusal.{Refusal}
use Rattle.reply.specs.declared.Reply.TheVariants.{Refused}
use Rattle.check_verdict.specs.Verdict.{refused}
use Rattle.build_states.specs.Strings.{entry_strings, entry_lines}
use Rattle.build_states.proofs.EntryLaws.{lines_length}
use Rattle.build_book.proofs.BuiltForm.{built_entries, states_both}
use Rattle.build_book.proofs.ItemForm.{items_lines, kernels_both}
use Rattle.build_book.specs.Text.{table_text}
use Rattle.build_book.specs.Book.{text_slice}
use Rattle.build_book.proofs.BookLaws.{Within}
use Rattle.build_states.specs.Lookaheads.{terminal_codes}
use Rattle.build_states.proofs.CodeLaws.{first_in, codes_low}
use Rattle.build_book.proofs.BuilderLaws.{builder_form, replies_many, replies_conflict, replies_text, slice_text, table_text_lem}
use Rattle.build_book.specs.Builder.{builder_table, builder_reply, builder_slice}
use Rattle.build_writer.specs.MemoryTable.{memory_table, memory_text, WriterRoom}
use Rattle.build_writer.proofs.InMemory.{memory_table_lem}
use Rattle.build_writer.proofs.BuiltOrder.{built_ordered}
use Rattle.build_cells.specs.Cells.{items_of, table_of, Filled}
use Rattle.build_memory.specs.Stages.{Stated, Numbered, Settled, BuildRoom}
use Rattle.build_memory.proofs.StateLaws.{few_strings, few_terminals, few_flags, limits_of, within_of, entries_hold}
use Rattle.build_reply.specs.declared.BuildReply.{BuildReply}
use Rattle.build_reply.specs.Reply.{text_length, refused_by, Writes}

-- ---- the builder's reply, length and slice

pub record Answers (g : Grammar) (room : ℕ) (r : BuildReply) (out : List ℕ) : Type 0 where
  pub reply_is : r.reply ≡ builder_reply g room
  pub length_is : r.length ≡ text_length (table_text (builder_table g)) (builder_reply g room)
  pub slice_is : out ≡ builder_slice g room
  pub fits : r.length ≤ room

module _ (g : Grammar) (room : ℕ) where
  answers_as : {r : BuildReply} {out : List ℕ} → r.reply ≡ builder_reply g room → r.length ≡ text_length (table_text (table_of g)) r.reply
      → out ≡ text_slice (table_text (table_of g)) room r.reply → r.length ≤ room → Answers g room r out
  answers_as e n s f = record {
    reply_is = e;
    length_is = n ∙ ap (text_length (table_text (table_of g))) e ∙ ap (λ (l : List ℕ). text_length l (builder_reply g room)) (sym (table_text_lem g));
    slice_is = s ∙ ap (text_slice (table_text (table_of g)) room) e ∙ sym (slice_text g room);
    fits = f;
  }

  answers_refused : {r : BuildReply} {x : Refusal} {out : List ℕ} → r ≡ refused_by x → Refused x ≡ builder_reply g room → out ≡ replicate room 0 → Answers g room r out
  answers_refused {x = x} {out = out} e f s = subst (λ (b : BuildReply). Answers g room b out) (sym e) (answers_as {r = refused_by x} f refl s (omega arith))

  pub answers_many : {r : BuildReply} {x : Refusal} {out : List ℕ} → (Within g → ⊥) → r ≡ refused_by x → Refused x ≡ refused LimitExceeded 0 → out ≡ replicate room 0 → Answers g room r out
  answers_many f e x s = answers_refused e (x ∙ sym (replies_many g room f)) s

module _ {g : Grammar} {items kernels kinds values gotos : List ℕ} {terminals goal rules strings all lines : ℕ}
    (T : Stated g items kernels kinds values gotos terminals goal rules strings all lines) where
  -- ---- a conflict

  conflict_reply : (room q : ℕ) (kinds' values' : List ℕ) → (q ≡ 0 → ⊥) → Filled g kinds' values' gotos q → builder_reply g room ≡ refused Conflict q
  conflict_reply room zero k v n f = absurd (n refl)
  conflict_reply room (suc q) k v n f = replies_conflict g room (suc q) (within_of T) f.0 f.1 f.2

  pub answers_conflict : (room : ℕ) {q : ℕ} {lookaheads k v out : List ℕ} {r : BuildReply} → (q ≡ 0 → ⊥) → Settled g kernels lookaheads k v gotos q
      → r ≡ refused_by (record { kind = Conflict; place = q }) → out ≡ replicate room 0 → Answers g room r out
  answers_conflict room {q} {k = k} {v = v} n s e o = answers_refused g room e (sym (conflict_reply room q k v n s.filled)) o

  -- ---- the book

  pub sized_of : {entries lookaheads k v : List ℕ} → Numbered entries strings → BuildRoom kernels k v gotos → length lookaheads ≡ 65536
      → WriterRoom items entries kernels lookaheads k v gotos rules strings lines all (terminals + 1)
  sized_of N R e = record {
    shaped = T.entered.shaped;
    entries_room = let z = few_strings T.entered in omega (arith, z, N.room);
    kernels_room = T.safe.some_lines.room;
    lookaheads_room = few_flags T e;
    kinds_room = omega (arith, R.kinds_room);
    values_room = omega (arith, R.values_room);
    gotos_room = omega (arith, R.gotos_room);
    few_strings = few_strings T.entered;
    few_states = T.safe.few_states;
    few_codes = let z = few_terminals T.entered in omega (arith, z);
  }

  book_kernels : {lookaheads : List ℕ} → HoldsKernels kernels lookaheads (items_of g) → HoldsKernels kernels lookaheads (table_of g)
  book_kernels H = record {
    line_state = λ l q i k e. H.line_state l q i k (back l e);
    line_item = λ l q i k e. H.line_item l q i k (back l e);
    line_dot = λ l q i k e. H.line_dot l q i k (back l e);
    code_on = λ l q i k d e m. H.code_on l q i k d (back l e) m;
    on_code = λ l q i k d e n on. H.on_code l q i k d (back l e) n on;
  }
    where
      back : (l : ℕ) {x : KernelLine} → at (table_of g).kernels l ≡ some x → at (items_of g).kernels l ≡ some x
      back l e = ap (λ (ks : List KernelLine). at ks l) (kernels_both g (FirstByRules g) (first? g) (terminal_codes g) (first_in g)) ∙ e

  table_is : {entries lookaheads k v : List ℕ} {codes : ℕ} → codes ≡ suc g.terminals → Numbered entries strings → Settled g kernels lookaheads k v gotos 0
      → memory_table items entries kernels lookaheads k v gotos rules strings lines all codes ≡ table_of g
  table_is {entries} {lookaheads} {k} {v} c N s =
      ap (memory_table items entries kernels lookaheads k v gotos rules strings lines all) c
      ∙ memory_table_lem (built_ordered g (FirstByRules g) (first? g) (terminal_codes g) (first_in g) (limits_of T) (codes_low g) form)
      (T.entered.holds_items (table_of g) entries_are) (entries_hold T N (table_of g) entries_are) (book_kernels s.holds_kernels) s.filled.1 rules strings lines all
      T.entered.rule_count (ap length entries_are ∙ lines_length 1 (entry_strings g) ∙ T.entered.entry_count)
      (ap length (sym (kernels_both g (FirstByRules g) (first? g) (terminal_codes g) (first_in g))) ∙ items_lines g (FirstByRules g) (first? g) (terminal_codes g) (first_in g) ∙ T.found.line_count)
      (states_both g (FirstByRules g) (first? g) (terminal_codes g) (first_in g) ∙ T.found.state_count)
    where
      form : WellFormed g (table_of g)
      form = builder_form g T.entered.formed T.entered.productive T.entered.reached (limits_of T)

      entries_are : (table_of g).entries ≡ entry_lines 1 (entry_strings g)
      entries_are = built_entries g (FirstByRules g) (first? g) (terminal_codes g) (first_in g)

  pub answers_book : (room : ℕ) {q : ℕ} {entries lookaheads k v out : List ℕ} {r : BuildReply} → q ≡ 0 → Numbered entries strings → Settled g kernels lookaheads k v gotos q
      → Writes (memory_text items entries kernels lookaheads k v gotos rules strings lines all (terminals + 1)) room r out → Answers g room r out
  answers_book room {q} {entries} {lookaheads} {k} {v} {out} {r} z N s w =
      let s₀ : Settled g kernels lookaheads k v gotos 0 = subst (Settled g kernels lookaheads k v gotos) z s in
      let c : terminals + 1 ≡ suc g.terminals = let y = T.entered.terminal_count in omega (arith, y) in
      let t : Writes (table_text (table_of g)) room r out = subst (λ (l : List ℕ). Writes l room r out) (ap table_text (table_is c N s₀)) w in
      answers_as g room (t.reply_is ∙ sym (replies_text g room (within_of T) s₀.filled.0)) t.length_is t.slice_is t.fits
