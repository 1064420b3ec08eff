-- The theorems that a customer relies on. Each is stated here in full over names that can be looked up; docs/ARCHITECTURE.md, 'What to believe',
-- lists the files that define them, in reading order. What the calls answer is said by their contracts (crates/NAME/src/lib.rt), as equations with
-- the definitions `verdict_of`, `session`, `build_of` and so on, for all bytes and lengths.
use Rattle.std.specs.Prelude.{ℕ, ◌≤◌, ◌≡◌, List, [], ◌∷◌, length}
use Rattle.language.specs.Grammar.{Grammar, IsTerminal}
use Rattle.language.specs.Sentence.{In}
use Rattle.leftcorner.specs.Table.{Table}
use Rattle.std.specs.Prelude.{◌↔◌}
use Rattle.reply.specs.declared.Reply.TheVariants.{Accepted}
use Rattle.fixpoint.specs.Each.{Each}
use Rattle.text.specs.Promise.{NumberPromise}
use Rattle.text.proofs.Promise as text
use Rattle.scans.specs.Promise.{ScansPromise}
use Rattle.scans.proofs.Promise as scans
use Rattle.grammar.specs.Book.{accepted, grammar_of}
use Rattle.checker.specs.Checked.{verdict_of, Accepts}
use Rattle.checker.proofs.Exactly as checker
use Rattle.session.specs.Demand3.{Demanded}
use Rattle.session.proofs.Demand3 as session
use Rattle.expected_promise.specs.Promise as expected
use Rattle.expected_promise.proofs.Promise as listed
use Rattle.generate_promise.specs.Promise.{GeneratorPromise}
use Rattle.generate_promise.proofs.Promise as loads
use Rattle.letters_promise.specs.Promise.{LettersPromise}
use Rattle.letters_promise.proofs.Promise as lettered
use Rattle.listing_promise.specs.Promise.{ListingPromise}
use Rattle.listing_promise.proofs.Promise as listings
use Rattle.canonical.specs.Promise.{OrderPromise}
use Rattle.canonical.proofs.Promise as order
use Rattle.build_promise.specs.Promise.{Promise}
use Rattle.build_promise.proofs.Promise as builder
use Rattle.worked_examples.specs.Books.{smallest, g1, g1_cut, d}
use Rattle.worked_examples.specs.Built.{Built}
use Rattle.worked_examples.specs.Starred.{Proved, sessions}
use Rattle.worked_examples.specs.Loads.{Loads}
use Rattle.worked_examples.proofs.Built as books
use Rattle.worked_examples.proofs.Starred as examples
use Rattle.worked_examples.proofs.Loads as made

-- Demand 2: "Tables are accepted if and only if their items, contexts and cells meet the left-corner construction of document 01."
pub accepted_exactly : (gs s : List ℕ) → (verdict_of gs s ≡ Accepted 0) ↔ ((g : Grammar) × (t : Table) × Accepts gs s g t)
accepted_exactly = checker.exactly

-- and the builder, of any book that is read as a grammar: `Promise` has the sentences, one by one
pub builder_promise : (gs : List ℕ) (g : Grammar) → grammar_of gs ≡ accepted g → Promise gs g
builder_promise = builder.builder_promise

-- Demand 3, of any two books that are accepted, whoever built the tables: `Demanded` has its sentences, one by one
pub demand3 : (gs s : List ℕ) → verdict_of gs s ≡ Accepted 0
    → (g : Grammar) × (t : Table) × Accepts gs s g t
    × ((w : List ℕ) → length w ≤ 65535 → ((a : ℕ) → In a w → IsTerminal g a) → Demanded gs s g t w)
demand3 = session.demand3

-- Document 02, S-1, of the call that lists what could have come: `Promise` has its sentences, one by one
pub expected_promise : expected.Promise
expected_promise = listed.promise

-- Document 02, S-2, of every field of every book: `Promise` has its sentences, one by one
pub number_promise : NumberPromise
number_promise = text.number_promise

-- Document 02, S-3, of every scan file: `Promise` has its sentences, one by one
pub scans_promise : ScansPromise
scans_promise = scans.scans_promise

-- Document 02, S-4, of every load that is made from a number: `Promise` has its sentences, one by one
pub generator_promise : GeneratorPromise
generator_promise = loads.generator_promise

-- Document 02, S-5, of every table book: `Promise` has its sentences, one by one
pub order_promise : OrderPromise
order_promise = order.order_promise

-- Document 02, S-7, of every session that is whole: `Promise` has its sentences, one by one
pub listing_promise : ListingPromise
listing_promise = listings.listing_promise

-- Document 02, S-8, of every letters book and every session through one: `Promise` has its sentences, one by one
pub letters_promise : LettersPromise
letters_promise = lettered.letters_promise

-- None of them speaks of nothing: the books of document 01 are built and accepted, and its starred sessions answer what is told
pub built : Each Built (smallest ∷ g1 ∷ g1_cut ∷ d ∷ [])
built = books.built

pub starred : Each Proved sessions
starred = examples.starred

-- and loads of these books are what the documents' text makes them
pub loads_made : Loads
loads_made = made.loads_made
