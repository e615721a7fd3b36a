-- The first cluster, by its one character, by its words or by itself.
use Rattle.std.proofs.Common.{◌≡◌, ◌∷◌, [], List, map, length, take, get_or, refl, ap, sym, ◌∙◌, append-nil, arith, rules}
use Rattle.std.specs.Char.{IsScalar}
use Rattle.std.specs.List.{concat, list_all, list_any}
use Rattle.std.specs.Prelude.{encode_utf8, encode_utf8_all}
use Rattle.std.specs.Str.{IsUtf8}
use Rattle.std.proofs.lemmas.List.{length-append, length-take-le, take-map}
use Rattle.std.proofs.lemmas.Str.{chars-nil, chars_past_char, IsUtf8-encode, length-le-encodes}
use Rattle.std.proofs.lemmas.Simd.{map-map}
use Rattle.std.proofs.lemmas.Iterator.{YieldsList-from_chars, YieldsList-from_slice}
use Rattle.std.proofs.lemmas.Iterator.Consumers.{count_from_yields_List}
use Rattle.std.proofs.lemmas.Iterator.Search.{all_from_yields_List}
use borrow.Author.Tests.{tests}
use Rattle.unicode_tables.specs.Word.{word_of}
use Rattle.unicode_tables.specs.declared.word.Word.{Word}
use Rattle.paragraphs.specs.Classes.{is_wide}
use Rattle.paragraphs.specs.Text.{code_points}
use Rattle.line_break.specs.Measures.{measure_of}
use Rattle.line_break.proofs.Measuring.{drop_first-take, measure-is}
use Rattle.line_break.proofs.Spaces.{is_space-alone, is_space-words}
use Rattle.line_break.proofs.measure.Measure.read_next.Goals as goal

pub next_alone-requires-clause-words : goal.next_alone-requires-clause-words
next_alone-requires-clause-words c = ap (map (λ (w : Word). w.is_plain)) c.requires.words ∙ map-map (λ (w : Word). w.is_plain) (word_of c.args.tables.now) c.args.points.now

pub bounds-words-0 : goal.bounds-words-0
bounds-words-0 c = let words = ap length (c.requires.words ∙ ap (map (word_of c.args.tables.now)) c.in-Some.ensures.first) in omega arith

pub columns_of_one-self-requires : goal.columns_of_one-self-requires
columns_of_one-self-requires c = ap (λ (words : List Word). get_or words 0 _) (c.requires.words ∙ ap (map (word_of c.args.tables.now)) c.in-Some.ensures.first)

pub returns-in-Some-clause-next : goal.returns-in-Some-clause-next
returns-in-Some-clause-next c =
    let t = c.args.tables.now in
    let point = c.in-Some.c in
    let bytes = encode_utf8 point in
    let scalar : IsScalar point = search rules in
    let word = ap (λ (words : List Word). get_or words 0 _) (c.requires.words ∙ ap (map (word_of t)) c.in-Some.ensures.first) in
    let one = chars_past_char bytes [] point (IsUtf8-encode point scalar) (sym (append-nil bytes)) ∙ ap (λ points. point ∷ points) chars-nil in
    record {
      cluster = bytes;
      taken = c.in-Some.ensures.taken;
      measured =
          measure-is t (point ∷ []) 1 c.columns_of_one-self.result _ refl c.columns_of_one-self.ensures (is_space-alone t _ point word)
          ∙ ap (measure_of t) (sym one);
    }

pub next_marked-requires-clause-words : goal.next_marked-requires-clause-words
next_marked-requires-clause-words c = ap (map (λ (w : Word). w.is_plain)) c.requires.words ∙ map-map (λ (w : Word). w.is_plain) (word_of c.args.tables.now) c.args.points.now

pub columns_of_marked-self-requires-clause-narrow : goal.columns_of_marked-self-requires-clause-narrow
columns_of_marked-self-requires-clause-narrow c =
    ap (list_any (λ (w : Word). is_wide w.ea)) (drop_first-take c.in-Some-next_marked.size c.args.words.now) ∙ c.in-Some-next_marked.ensures.narrow

pub columns_of_marked-self-requires-clause-words : goal.columns_of_marked-self-requires-clause-words
columns_of_marked-self-requires-clause-words c =
    ap (take c.in-Some-next_marked.size) c.requires.words ∙ take-map (word_of c.args.tables.now) c.in-Some-next_marked.size c.args.points.now

pub overflow_cast-self : goal.overflow_cast-self
overflow_cast-self c =
    let size = c.in-Some-next_marked.size in
    let own = take size c.args.points.now in
    let left = c.next_marked.new.self in
    let all = ap (λ cs. length (concat cs)) (sym c.in_default.ensures.taken ∙ c.in-Some-next_marked.ensures.taken) in
    let some : length own ≡ size = length-take-le size c.args.points.now c.in-Some-next_marked.ensures.size.1 in
    omega (arith, c.requires.few, all, some, length-append (encode_utf8_all own) (concat left), length-le-encodes own)

pub returns-in-Some-next_marked-clause-next : goal.returns-in-Some-next_marked-clause-next
returns-in-Some-next_marked-clause-next c =
    let t = c.args.tables.now in
    let size = c.in-Some-next_marked.size in
    let own = take size c.args.points.now in
    let words = ap (take size) c.requires.words ∙ take-map (word_of t) size c.args.points.now in
    let all =
    all_from_yields_List (λ (w : Word). w.is_space) _ _ c.all-self.result c.all-self.ensures.ran (YieldsList-from_slice (take size c.args.words.now) cc)
    (λ x b q k. search (rules, tests)) in
    record {
      cluster = encode_utf8_all own;
      taken = sym c.in_default.ensures.taken ∙ c.in-Some-next_marked.ensures.taken;
      measured =
          measure-is t own size c.columns_of_marked-self.result c.all-self.result (sym (length-take-le size c.args.points.now c.in-Some-next_marked.ensures.size.1))
          c.columns_of_marked-self.ensures (all ∙ ap (list_all (λ (w : Word). w.is_space)) words ∙ is_space-words t own)
          ∙ ap (measure_of t) (sym c.in-Some-next_marked.ensures.points);
    }

pub returns-clause-next : goal.returns-clause-next
returns-clause-next c =
    let t = c.args.tables.now in
    let cluster = c.in_ok-cluster.cluster.now in
    let u : IsUtf8 cluster = search rules in
    let size = count_from_yields_List _ _ c.count.ensures.ran (YieldsList-from_chars cluster u c.chars.ensures.rest) in
    record {
      cluster = cluster;
      taken = sym c.in_default.ensures.taken ∙ sym c.in_default-next_marked.ensures.taken ∙ c.in_ok-cluster.ensures.steps;
      measured = measure-is t (code_points cluster) c.count.result c.columns-self.result c.is_space-self.result size c.columns-self.ensures c.is_space-self.ensures;
    }
