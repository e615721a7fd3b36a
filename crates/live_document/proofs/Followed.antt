-- Paragraphs that follow the text of a desk.
use Rattle.std.proofs.Common.{◌≡◌, ℕ, ◌+◌, ◌-◌, ◌≤◌, Bool, false, inl, List, [], ◌∷◌, length, take, drop, map, refl, sym, ap, subst, ◌∙◌, arith}
use Rattle.std.proofs.lemmas.Bool.{both_ways}
use Rattle.std.proofs.lemmas.List.{length-map, take_rest}
use Rattle.std.specs.List.{All, concat}
use Rattle.std.specs.Prelude.{Result, Ok, Err, is_err, IfOk, IfErr, OnOk, OnErr, true}
use Rattle.bg_types.specs.Identifier.{Identifier}
use Rattle.bg_types.specs.OperationSet.{Node, OperationSet}
use Rattle.bg_types.specs.Edit.{IsEdit}
use Rattle.bg_types.specs.declared.change.Change.{Change}
use Rattle.rga_tree.specs.TextOf.{text, visible}
use Rattle.desk_replica.specs.Desk.{Desk}
use Rattle.desk_replica.specs.Telling.{IsTold}
use Rattle.bg_types.specs.declared.class.Base.{Base}
use Rattle.unicode_tables.specs.Tables.{TableValues}
use Rattle.text_buffer.specs.Buffers.{paragraphs_in, text_in, IsSplit}
use Rattle.text_buffer.specs.Edits.{anew, replaced, all_changed, AreInRange, IsTouched, IsTouchedInTurn, AreTouched, Step}
use Rattle.text_buffer.specs.declared.touched.Touched.{Touched}
use Rattle.text_buffer.specs.declared.fault.BufferFault.{BufferFault}
use Rattle.text_buffer.specs.declared.fault.Stopped.{Stopped}
use Rattle.text_buffer.proofs.Interface.{changed-all}
use Rattle.live_document.specs.Keeping.{KeptText, weight_held, IsLaid, IsKeptAt, StaysKept}
use Rattle.live_document.specs.declared.shown.Shown.{Shown}
use Rattle.live_document.specs.Documents.{IsWindowOf, IsLive}
use Rattle.live_document.specs.Showing.{window_in, no_window, IsAtHand, IsReadable}
use Rattle.live_document.proofs.Beside.{laid-anew, laid-replaced}
use Rattle.live_document.proofs.Cursors.{split-some}

-- of a text that is split anew nothing is kept
pub kept-anew : (tables : TableValues) (width : ℕ) (base : Base) (kept : KeptText) → IsSplit tables (paragraphs_in kept) → kept ≡ map anew (paragraphs_in kept)
    → 2 ≤ width → width ≤ 500 → IsKeptAt tables width base kept
kept-anew tables width base kept split is least most = record {
  at_least = least;
  at_most = most;
  split = split;
  laid = subst (All (IsLaid tables width base)) (sym is) (laid-anew tables width base (paragraphs_in kept));
}

-- an edit drops what is kept of what it makes anew, and leaves the rest
pub stays-edited : (tables : TableValues) (old new : KeptText) (from to : ℕ) (touched : Touched) → IsTouched old from to touched new → IsSplit tables (paragraphs_in new)
    → StaysKept tables old new
stays-edited tables old new from to touched h split = λ width base at. record {
  at_least = at.at_least;
  at_most = at.at_most;
  split = split;
  laid = laid-replaced tables width base old new touched.first (touched.first + touched.old) h.made h.paragraphs at.laid;
}

pub stays-same : (tables : TableValues) (old new : KeptText) → new ≡ old → StaysKept tables old new
stays-same tables old new same = λ width base at. subst (IsKeptAt tables width base) (sym same) at

-- one that was refused leaves all
pub stays-after : (tables : TableValues) (old new : KeptText) (from to : ℕ) (r : Result Touched BufferFault) → IfOk r (λ t. IsTouched old from to t new)
    → OnOk r (IsSplit tables (paragraphs_in new)) → OnErr r (new ≡ old) → StaysKept tables old new
stays-after tables old new from to (Ok t) touched split same = stays-edited tables old new from to t touched split
stays-after tables old new from to (Err e) touched split same = stays-same tables old new same

-- so do edits one after the other
laid-in_turn : (tables : TableValues) (width : ℕ) (base : Base) (old new : KeptText) (steps : List Step) → IsTouchedInTurn old steps new
    → All (IsLaid tables width base) old → All (IsLaid tables width base) new
laid-in_turn tables width base old new [] same all = subst (All (IsLaid tables width base)) (sym same) all
laid-in_turn tables width base old new (s ∷ steps) h all =
    laid-in_turn tables width base h.0 new steps h.2
    (laid-replaced tables width base old h.0 s.touched.first (s.touched.first + s.touched.old) h.1.made h.1.paragraphs all)

stays-touched : (tables : TableValues) (old new : KeptText) (changes : List Change) → AreTouched old changes new → IsSplit tables (paragraphs_in new) → StaysKept tables old new
stays-touched tables old new changes h split = λ width base at. record {
  at_least = at.at_least;
  at_most = at.at_most;
  split = split;
  laid = laid-in_turn tables width base old new h.steps h.touched at.laid;
}

-- all changes are made, or the first of them
pub stays-all : (tables : TableValues) (old new : KeptText) (changes : List Change) (r : Result (Unit {0}) Stopped) → OnOk r (AreTouched old changes new)
    → IfErr r (λ s. AreTouched old (take s.made changes) new) → IsSplit tables (paragraphs_in new) → StaysKept tables old new
stays-all tables old new changes (Ok u) all begun split = stays-touched tables old new changes all split
stays-all tables old new changes (Err s) all begun split = stays-touched tables old new (take s.made changes) begun split

-- what holds after Ok
pub on-ok : {A E P : Type 0} (r : Result A E) → is_err r ≡ false → OnOk r P → P
on-ok (Ok v) e h = h
on-ok (Err x) e h = cc

-- a text has as many code points as characters are visible
pub text-count : (s : OperationSet) → length (text s) ≡ length (visible s)
text-count s = length-map (visible s) (λ (e : Identifier × Node). e.1.ch)

-- nothing is shown
abbrev pub nothing : Shown
nothing = record { first = 0; skip = 0; count = 0; number = 0 }

pub nothing-at_hand : (tables : TableValues) (kept : KeptText) → IsSplit tables (paragraphs_in kept) → IsAtHand kept nothing
nothing-at_hand tables kept split = record { there = split-some tables kept split; enough = omega arith; few = omega arith }

pub nothing-window : (kept : KeptText) → window_in kept nothing ≡ no_window
nothing-window kept = refl

-- what is shown may be read
pub live-readable : (desk : Desk) (tables : TableValues) (width : ℕ) (base : Base) (behind : Bool) (kept : KeptText) (s : Shown) (held : ℕ) → IsLive desk tables width base behind kept s held
    → IsReadable kept s
live-readable desk tables width base behind kept s held live = record { tables = tables; width = width; base = base; kept_at = live.kept_at; at_hand = live.at_hand }

-- a desk's text has changed, and the paragraphs with it or they are behind
pub live-followed : (old new : Desk) (tables : TableValues) (width : ℕ) (base : Base) (behind later : Bool) (kept now : KeptText) (s : Shown) (held from to : ℕ) (points : List ℕ)
    → IsLive old tables width base behind kept s held → StaysKept tables kept now → weight_held now ≤ weight_held kept
    → (later ≡ false → behind ≡ false) → (later ≡ false → text_in now ≡ replaced (text_in kept) from to points) → text new.set ≡ replaced (text old.set) from to points
    → IsLive new tables width base later now nothing held
live-followed old new tables width base behind later kept now s held from to points live stays less before same changed = record {
  kept_at = stays width base live.kept_at;
  text_is = λ h. same h ∙ ap (λ t. replaced t from to points) (live.text_is (before h)) ∙ sym changed;
  unshown = λ h. nothing-window now;
  at_hand = nothing-at_hand tables now (stays width base live.kept_at).split;
  of_now = inl (nothing-window now);
  held_is = omega (arith, less, live.held_is);
  held_few = live.held_few;
}

-- the desk's text is the same, and the paragraphs are its own
pub live-caught : (desk : Desk) (tables : TableValues) (width : ℕ) (base : Base) (now : KeptText) (s : Shown) (held : ℕ)
    → IsKeptAt tables width base now → text_in now ≡ text desk.set → IsAtHand now s → IsWindowOf desk.set tables width base (window_in now s)
    → weight_held now ≤ held → held ≤ 900_000_000_000_000 → IsLive desk tables width base false now s held
live-caught desk tables width base now s held at is hand shown less few = record {
  kept_at = at;
  text_is = λ h. is;
  unshown = λ h. absurd (both_ways false refl h);
  at_hand = hand;
  of_now = shown;
  held_is = less;
  held_few = few;
}

-- what stands behind older changes, as a slice of all
pub told-behind : (old new all : List Change) (n : ℕ) → n ≡ length old → all ≡ new → take (length all - n) (drop n all) ≡ drop (length old) new
told-behind old new all n is same = take_rest all n ∙ ap (drop n) same ∙ ap (λ m. drop m new) is

-- what is told behind older changes leads from the text to the next
pub told-edit : (change : (s t : OperationSet) (old new : List Change) → IsTold s t old new → IsEdit (text s) (drop (length old) new) (text t)) (s t : OperationSet)
    (old new told : List Change) → told ≡ drop (length old) new → IsTold s t old new → IsEdit (text s) told (text t)
told-edit change s t old new told is h = subst (λ (changes : List Change). IsEdit (text s) changes (text t)) (sym is) (change s t old new h)

-- changes of the desk's text are in range in the paragraphs, unless these are behind
pub live-range : (old : Desk) (tables : TableValues) (width : ℕ) (base : Base) (behind : Bool) (kept : KeptText) (s : Shown) (held : ℕ) (changes : List Change) (later : List ℕ)
    → IsLive old tables width base behind kept s held → IsEdit (text old.set) changes later → behind ≡ false → AreInRange (text_in kept) changes
live-range old tables width base behind kept s held changes later live edit h =
    subst (λ (t : List ℕ). AreInRange t changes) (sym (live.text_is h)) (changed-all changes (text old.set) later edit).0

-- the changes of a desk's text are made in the paragraphs too, or these are behind
pub live-told : (old new : Desk) (tables : TableValues) (width : ℕ) (base : Base) (behind later : Bool) (kept now : KeptText) (s : Shown) (held : ℕ) (changes : List Change)
    → IsLive old tables width base behind kept s held → StaysKept tables kept now → weight_held now ≤ weight_held kept
    → (later ≡ false → behind ≡ false) → (later ≡ false → text_in now ≡ all_changed (text_in kept) changes) → IsEdit (text old.set) changes (text new.set)
    → IsLive new tables width base later now nothing held
live-told old new tables width base behind later kept now s held changes live stays less before same edit = record {
  kept_at = stays width base live.kept_at;
  text_is = λ h. same h ∙ ap (λ t. all_changed t changes) (live.text_is (before h)) ∙ sym (changed-all changes (text old.set) (text new.set) edit).1;
  unshown = λ h. nothing-window now;
  at_hand = nothing-at_hand tables now (stays width base live.kept_at).split;
  of_now = inl (nothing-window now);
  held_is = omega (arith, less, live.held_is);
  held_few = live.held_few;
}

-- the paragraphs are behind their desk
pub live-behind : (desk : Desk) (tables : TableValues) (width : ℕ) (base : Base) (kept : KeptText) (held : ℕ)
    → IsKeptAt tables width base kept → weight_held kept ≤ held → held ≤ 900_000_000_000_000
    → IsLive desk tables width base true kept nothing held
live-behind desk tables width base kept held at less few = record {
  kept_at = at;
  text_is = λ h. cc;
  unshown = λ h. nothing-window kept;
  at_hand = nothing-at_hand tables kept at.split;
  of_now = inl (nothing-window kept);
  held_is = less;
  held_few = few;
}

-- the desk's operations are the same
pub live-alike : (old new : Desk) (tables : TableValues) (width : ℕ) (base : Base) (behind : Bool) (kept : KeptText) (s : Shown) (held : ℕ)
    → IsLive old tables width base behind kept s held → new.set ≡ old.set → IsLive new tables width base behind kept s held
live-alike old new tables width base behind kept s held live same = record {
  kept_at = live.kept_at;
  text_is = λ h. live.text_is h ∙ sym (ap text same);
  unshown = live.unshown;
  at_hand = live.at_hand;
  of_now = subst (λ (set : OperationSet). IsWindowOf set tables width base (window_in kept s)) (sym same) live.of_now;
  held_is = live.held_is;
  held_few = live.held_few;
}

-- nothing is kept any more, and the width or the base may be another
pub live-turned : (desk : Desk) (tables : TableValues) (width : ℕ) (base : Base) (behind : Bool) (kept now : KeptText) (s : Shown) (held wider : ℕ) (turned : Base)
    → IsLive desk tables width base behind kept s held → 2 ≤ wider → wider ≤ 500
    → paragraphs_in now ≡ paragraphs_in kept → All (IsLaid tables wider turned) now → weight_held now ≡ 0 → IsLive desk tables wider turned behind now nothing 0
live-turned desk tables width base behind kept now s held wider turned live least most same laid empty = record {
  kept_at = record { at_least = least; at_most = most; split = subst (IsSplit tables) (sym same) live.kept_at.split; laid = laid };
  text_is = λ h. ap concat same ∙ live.text_is h;
  unshown = λ h. nothing-window now;
  at_hand = nothing-at_hand tables now (subst (IsSplit tables) (sym same) live.kept_at.split);
  of_now = inl (nothing-window now);
  held_is = omega (arith, empty);
  held_few = omega arith;
}

-- the paragraphs are the desk's, nothing is kept of them, and nothing is shown
pub live-bare : (desk : Desk) (tables : TableValues) (width : ℕ) (base : Base) (kept now : KeptText) → IsKeptAt tables width base kept → text_in kept ≡ text desk.set
    → paragraphs_in now ≡ paragraphs_in kept → All (IsLaid tables width base) now → weight_held now ≡ 0
    → IsLive desk tables width base false now nothing 0
live-bare desk tables width base kept now at is same laid empty = record {
  kept_at = record { at_least = at.at_least; at_most = at.at_most; split = subst (IsSplit tables) (sym same) at.split; laid = laid };
  text_is = λ h. ap concat same ∙ is;
  unshown = λ h. absurd (both_ways false refl h);
  at_hand = nothing-at_hand tables now (subst (IsSplit tables) (sym same) at.split);
  of_now = inl (nothing-window now);
  held_is = omega (arith, empty);
  held_few = omega arith;
}
