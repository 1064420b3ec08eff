-- How the reading of a right side goes on, field by field.
use Prim.Native.Nat.{ℕ, zero, suc, ◌+◌, ◌≤◌, ◌<◌}
use mathlib.Core.Path.{◌≡◌, refl, sym, ap, subst, ◌∙◌}
use mathlib.Core.List.{List, [], ◌∷◌, ◌++◌, append-nil}
use mathlib.Core.Bool.{true, false}
use native.Mathlib.Omega.{arith}
use lib.ListN.{length, length-append}
use lib.Seq.{append_snoc}
use Rattle.text.specs.declared.Cursor.{Cursor}
use Rattle.text.specs.declared.Field.{Field}
use Rattle.text.specs.declared.Field.TheVariants as field
use Rattle.text.specs.Field.{field_at}
use Rattle.text.proofs.OnwardLaws.{Between, onward}
use Rattle.grammar_rule.specs.declared.Progress.{Progress}
use Rattle.grammar_rule.specs.declared.Parts.TheVariants as out
use Rattle.grammar_rule.specs.Parts.{Part, symbol, mark_of, Rest, parts, broken, after, parts_from, parts_at, symbols_of}
use Rattle.grammar_rule.specs.Marks.{before}
use Rattle.grammar_rule.specs.Progress.{Tracks, Answers, stage_of, add_symbol, add_mark}
use Rattle.grammar_rule.specs.Memory.{EmptyRow, with_symbol, Kept, Filled}
use Rattle.grammar_rule.proofs.SeenLaws.{symbols_symbol, symbols_mark}
use Rattle.grammar_rule.proofs.TrackLaws.{tracks_none, tracks_symbol, tracks_mark}
use Rattle.grammar_rule.proofs.KeepLaws.{kept_none, kept_symbol, kept_mark}

after_none : (r : Rest) → after [] r ≡ r
after_none (parts qs next) = refl
after_none broken = refl

after_more : (ps : List Part) (q : Part) (r : Rest) → after ps (after (q ∷ []) r) ≡ after (ps ++ q ∷ []) r
after_more ps q (parts qs next) = ap (λ (l : List Part). parts l next) (sym (append_snoc ps q qs))
after_more ps q broken = refl

-- ---- a field more
module _ (k : ℕ) (s : List ℕ) (c : Cursor) where
  parts-ended : c.ended ≡ true → parts_from (suc k) s c ≡ parts [] c.at
  unfolding parts_from
  parts-ended e = simp e

  module _ (e : c.ended ≡ false) where
    parts_symbol : (v : ℕ) (d : Cursor) → field_at s c ≡ field.Number v d → parts_from (suc k) s c ≡ after (symbol v ∷ []) (parts_from k s d)
    unfolding parts_from
    parts_symbol v d f = simp (e, f)

    parts_mark : (b : ℕ) (d : Cursor) → field_at s c ≡ field.Mark b d → parts_from (suc k) s c ≡ after (mark_of b ∷ []) (parts_from k s d)
    unfolding parts_from
    parts_mark b d f = simp (e, f)

    -- neither mark nor number
    parts_broken : {f : Field} → f ≡ field_at s c → ((b : ℕ) (d : Cursor) → f ≡ field.Mark b d → ⊥) → ((v : ℕ) (d : Cursor) → f ≡ field.Number v d → ⊥)
        → parts_from (suc k) s c ≡ broken
    unfolding parts_from
    parts_broken {f} q m o = go f q m o
      where
        go : (f : Field) → f ≡ field_at s c → ((b : ℕ) (d : Cursor) → f ≡ field.Mark b d → ⊥) → ((v : ℕ) (d : Cursor) → f ≡ field.Number v d → ⊥)
            → parts_from (suc k) s c ≡ broken
        go (field.Number v d) q m o = absurd (o v d refl)
        go (field.Mark b d) q m o = absurd (m b d refl)
        go (field.Letter b d) q m o = simp (e, sym q)
        go field.Broken q m o = simp (e, sym q)

-- ---- the loop: some parts are seen, and the line is they and what stands from c on
module _ (s : List ℕ) (t n : ℕ) (first : Cursor) (m₀ : List ℕ) (base : ℕ) where
  pub record Reading (c : Cursor) (p : Progress) (m : List ℕ) : Type 0 where
    pub fuel : ℕ
    pub enough : length s ≤ c.at + fuel
    pub passed : List Part
    pub same : parts_at s first ≡ after passed (parts_from (suc fuel) s c)
    pub tracks : Tracks t n passed p
    pub kept : Kept t n passed m₀ base m
    pub few : length (symbols_of passed) ≤ c.at

  pub reading_start : EmptyRow m₀ base → Reading first (record { count = 0; point = 0; stage = stage_of (before []); over = false; undeclared = false }) m₀
  reading_start h =
      record {
        fuel = length s;
        enough = omega arith;
        passed = [];
        same = sym (after_none (parts_at s first));
        tracks = tracks_none t n;
        kept = kept_none m₀ base t n h;
        few = omega arith;
      }

  module _ (c : Cursor) (p : Progress) (m : List ℕ) (r : Reading c p m) where
    pub count_low : {v : ℕ} {d : Cursor} → field_at s c ≡ field.Number v d → p.count < length s
    count_low {v} {d} f =
        let b : Between c.at (length s) d = onward s c (field.Number v d) f in
        let e : p.count ≡ length (symbols_of r.passed) = r.tracks.count_is in
        omega (arith, b.0, b.1, r.few)

    with_symbol_lem : t ≤ 63 → n ≤ 64 → c.ended ≡ false → (v : ℕ) (d : Cursor) → field_at s c ≡ field.Number v d
        → Reading d (add_symbol t n p v) (with_symbol m base p.count p.stage v)
    with_symbol_lem ht hn e v d f = go r.fuel r.enough (r.same ∙ ap (after r.passed) (parts_symbol r.fuel s c e v d f) ∙ after_more r.passed (symbol v) (parts_from r.fuel s d))
      where
        b : Between c.at (length s) d
        b = onward s c (field.Number v d) f

        go : (k : ℕ) → length s ≤ c.at + k → parts_at s first ≡ after (r.passed ++ symbol v ∷ []) (parts_from k s d)
            → Reading d (add_symbol t n p v) (with_symbol m base p.count p.stage v)
        go zero h q = absurd (omega (arith, b.0, b.1))
        go (suc k) h q =
            record {
              fuel = k;
              enough = omega (arith, b.0);
              passed = r.passed ++ symbol v ∷ [];
              same = q;
              tracks = tracks_symbol t n r.passed p v r.tracks;
              kept = kept_symbol m₀ base t n ht hn r.passed p v m r.tracks r.kept;
              few = rw (symbols_symbol r.passed v) (simp length-append (omega (arith, b.0, r.few)));
            }

    with_mark : c.ended ≡ false → (x : ℕ) (d : Cursor) → field_at s c ≡ field.Mark x d → Reading d (add_mark p x) m
    with_mark e x d f = go r.fuel r.enough (r.same ∙ ap (after r.passed) (parts_mark r.fuel s c e x d f) ∙ after_more r.passed (mark_of x) (parts_from r.fuel s d))
      where
        b : Between c.at (length s) d
        b = onward s c (field.Mark x d) f

        go : (k : ℕ) → length s ≤ c.at + k → parts_at s first ≡ after (r.passed ++ mark_of x ∷ []) (parts_from k s d) → Reading d (add_mark p x) m
        go zero h q = absurd (omega (arith, b.0, b.1))
        go (suc k) h q =
            record {
              fuel = k;
              enough = omega (arith, b.0);
              passed = r.passed ++ mark_of x ∷ [];
              same = q;
              tracks = tracks_mark t n r.passed p x r.tracks;
              kept = kept_mark m₀ base t n r.passed x m r.kept;
              few = rw (symbols_mark r.passed x) (omega (arith, b.0, r.few));
            }

    -- as the code has it: p' and m' are what it has made of them
    module _ {p' : Progress} {m' : List ℕ} where
      pub reading_symbol : t ≤ 63 → n ≤ 64 → c.ended ≡ false → (v : ℕ) (d : Cursor) → field_at s c ≡ field.Number v d
          → p' ≡ add_symbol t n p v → m' ≡ with_symbol m base p.count p.stage v → Reading d p' m'
      reading_symbol ht hn e v d f q w = rw (q, w) (with_symbol_lem ht hn e v d f)

    pub reading_mark : {p' : Progress} → c.ended ≡ false → (x : ℕ) (d : Cursor) → field_at s c ≡ field.Mark x d → p' ≡ add_mark p x → Reading d p' m
    reading_mark e x d f q = rw q (with_mark e x d f)

    -- ---- the ways out
    pub reading_ended : c.ended ≡ true → Answers t n (parts_at s first) (out.Complete p c.at) × Filled t n (parts_at s first) m₀ base m
    reading_ended e =
        let q : parts_at s first ≡ parts r.passed c.at =
        r.same ∙ ap (after r.passed) (parts-ended r.fuel s c e) ∙ ap (λ (l : List Part). parts l c.at) (append-nil r.passed) in (
          subst (λ (x : Rest). Answers t n x (out.Complete p c.at)) (sym q) (r.tracks, refl),
          subst (λ (x : Rest). Filled t n x m₀ base m) (sym q) (record { filled = r.kept }),
        )

    pub reading_broken : c.ended ≡ false → {f : Field} → f ≡ field_at s c → ((b : ℕ) (d : Cursor) → f ≡ field.Mark b d → ⊥)
        → ((v : ℕ) (d : Cursor) → f ≡ field.Number v d → ⊥) → Answers t n (parts_at s first) out.Broken × Filled t n (parts_at s first) m₀ base m
    reading_broken e f x y =
        let q : parts_at s first ≡ broken = r.same ∙ ap (after r.passed) (parts_broken r.fuel s c e f x y) in
        (subst (λ (x : Rest). Answers t n x out.Broken) (sym q) tt, subst (λ (x : Rest). Filled t n x m₀ base m) (sym q) (record { filled = tt }))
