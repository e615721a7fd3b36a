-- What values are set, after lines set them.
use Rattle.std.proofs.Common.{◌≡◌, ℕ, Bool, true, false, cond, List, [], ◌∷◌, Option, Some, None, refl, ap, ◌∙◌, sym}
use Rattle.std.specs.Prelude.{reverse, find}
use Rattle.std.specs.Option.{option_map_or, option_or}
use Rattle.std.specs.List.{filter_map, cons_option}
use Rattle.std.proofs.lemmas.List.{reverse-append}
use Rattle.std.proofs.lemmas.List.Folds.{find-append}
use Rattle.ucd_files.specs.declared.entry.Entry.{Entry}
use Rattle.ucd_files.specs.Entry.{covers, last_value}
use Rattle.ucd_files.specs.Line.{lines_of}
use Rattle.ucd_files.specs.Reading.{Reading, data_lines, value_at}
use Rattle.ucd_files.specs.Passes.{data_said, written, overlaid}

last_value-none : {V : Type 0} (c : ℕ) (before : V) → last_value [] c before ≡ before
unfolding last_value
last_value-none c before = refl

value_or : {V : Type 0} (o : Option (Entry V)) (b : Bool) (entry : Entry V) (before : V)
    → option_map_or (λ e. e.value) (option_or o (cond b (Some entry) None)) before ≡ option_map_or (λ e. e.value) o (cond b entry.value before)
value_or None true entry before = refl
value_or None false entry before = refl
value_or (Some e) b entry before = refl

-- the first line matters where no later one covers c
last_value-cons : {V : Type 0} (entry : Entry V) (entries : List (Entry V)) (c : ℕ) (before : V)
    → last_value (entry ∷ entries) c before ≡ last_value entries c (written (Some entry) c before)
unfolding last_value
last_value-cons entry entries c before =
    ap (λ es. option_map_or (λ e. e.value) (find (covers c) es) before) (reverse-append (entry ∷ []) entries)
    ∙ ap (λ o. option_map_or (λ e. e.value) o before) (find-append (covers c) (reverse entries) (entry ∷ []))
    ∙ value_or (find (covers c) (reverse entries)) (covers c entry) entry before

last_value-option : {V : Type 0} (said : Option (Entry V)) (entries : List (Entry V)) (c : ℕ) (before : V)
    → last_value (cons_option said entries) c before ≡ last_value entries c (written said c before)
last_value-option None entries c before = refl
last_value-option (Some entry) entries c before = last_value-cons entry entries c before

-- lines written one over the other leave the value of the last that covers c
overlaid-is : {V : Type 0} (says : List ℕ → Option (Entry V)) (lines : List (List ℕ)) (c : ℕ) (before : V)
    → overlaid says lines c before ≡ last_value (filter_map says lines) c before
overlaid-is says [] c before = sym (last_value-none c before)
overlaid-is says (line ∷ lines) c before =
    overlaid-is says lines c (written (says line) c before)
    ∙ sym (last_value-option (says line) (filter_map says lines) c before)

-- the data lines over the defaults give each code point its value
pub value_at-passes : {V : Type 0} (reading : Reading V) (bytes : List ℕ) (c : ℕ)
    → overlaid (data_said reading) (lines_of bytes) c (overlaid reading.missing (lines_of bytes) c reading.absent) ≡ value_at reading bytes c
unfolding value_at
value_at-passes reading bytes c =
    overlaid-is (data_said reading) (lines_of bytes) c (overlaid reading.missing (lines_of bytes) c reading.absent)
    ∙ ap (last_value (data_lines reading bytes) c) (overlaid-is reading.missing (lines_of bytes) c reading.absent)
