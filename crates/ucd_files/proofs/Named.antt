-- A value by its name, a row of the table at a time.
use Rattle.std.proofs.Common.{◌≡◌, ℕ, ◌+◌, ◌<◌, Bool, true, false, cond, List, [], ◌∷◌, ◌++◌, length, get_or, drop, refl, ap, ◌∙◌, sym, Option, Some, None}
use Rattle.std.specs.Borrow.{Bor}
use Rattle.std.specs.Option.{option_map, option_or}
use Rattle.std.specs.Str.{bytes_eq}
use Rattle.std.specs.Prelude.{find}
use Rattle.std.proofs.lemmas.List.{at_drop_more}
use Rattle.std.proofs.lemmas.List.Folds.{find-append}
use Rattle.ucd_files.specs.Names.{named, name_table}

option_map-cond : {A B : Type 0} (f : A → B) (b : Bool) (x : A) (o : Option A) → option_map f (cond b (Some x) o) ≡ cond b (Some (f x)) (option_map f o)
option_map-cond f true x o = refl
option_map-cond f false x o = refl

named-cons : {V : Type 0} (row : List ℕ × V) (table : List (List ℕ × V)) (name : List ℕ)
    → named (row ∷ table) name ≡ cond (bytes_eq row.0 name) (Some row.1) (named table name)
unfolding named
named-cons row table name = option_map-cond (λ r. r.1) (bytes_eq row.0 name) row (find (λ r. bytes_eq r.0 name) table)

-- the row at place i is tried, and then those after it
pub named-drop : {V : Type 0} (table : List (Bor (List ℕ) × V)) (i : ℕ) (row : Bor (List ℕ) × V) (name : List ℕ) (same : Bool)
    → i < length table → row ≡ get_or table i row → same ≡ bytes_eq row.0.now name
    → named (name_table (drop i table)) name ≡ cond same (Some row.1) (named (name_table (drop (i + 1) table)) name)
named-drop table i row name same h is e =
    at_drop_more (λ t. named (name_table t) name) table i row h
    ∙ ap (λ r. named (name_table (r ∷ drop (i + 1) table)) name) (sym is)
    ∙ named-cons (row.0.now, row.1) (name_table (drop (i + 1) table)) name
    ∙ ap (λ b. cond b (Some row.1) (named (name_table (drop (i + 1) table)) name)) (sym e)

pub named-nil : {V : Type 0} (name : List ℕ) → named {V = V} [] name ≡ None
unfolding named
named-nil name = refl

option_map-or : {A B : Type 0} (f : A → B) (o p : Option A) → option_map f (option_or o p) ≡ option_or (option_map f o) (option_map f p)
option_map-or f None p = refl
option_map-or f (Some x) p = refl

-- a name of two tables
pub named_append : {V : Type 0} (xs ys : List (List ℕ × V)) (name : List ℕ) → named (xs ++ ys) name ≡ option_or (named xs name) (named ys name)
unfolding named
named_append xs ys name =
    ap (option_map (λ r. r.1)) (find-append (λ r. bytes_eq r.0 name) xs ys)
    ∙ option_map-or (λ r. r.1) (find (λ r. bytes_eq r.0 name) xs) (find (λ r. bytes_eq r.0 name) ys)
