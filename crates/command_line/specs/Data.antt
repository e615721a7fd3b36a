-- The data files of a folder.
use Rattle.std.specs.Prelude.{◌≡◌, ◌≤◌, ℕ, Bool, List, ◌∷◌, ◌++◌, Option, codes, vec_len}
use Rattle.ucd_files.specs.declared.files.Ucd.{Ucd}
use Rattle.command_line.specs.declared.data.Data.{Data}
use Rattle.command_line.specs.Given.{AreGiven}

-- each file is the one of its name, and ambiguous characters are as wide as was asked for
pub record IsUcdOf (files : Data) (wide_ambiguous : Bool) (ucd : Ucd) : Type 0 where
  pub bidi : ucd.bidi.now ≡ files.bidi.items
  pub brackets : ucd.brackets.now ≡ files.brackets.items
  pub mirror : ucd.mirror.now ≡ files.mirror.items
  pub lb : ucd.lb.now ≡ files.lb.items
  pub ea : ucd.ea.now ≡ files.ea.items
  pub wide : ucd.wide_ambiguous ≡ wide_ambiguous

-- no file is longer than the limit
pub record IsWithin (limit : ℕ) (files : Data) : Type 0 where
  pub bidi : vec_len files.bidi ≤ limit
  pub brackets : vec_len files.brackets ≤ limit
  pub mirror : vec_len files.mirror ≤ limit
  pub lb : vec_len files.lb ≤ limit
  pub ea : vec_len files.ea ≤ limit

-- the path of a file in a folder: 47 is the slash
abbrev pub path_in : (folder name : List ℕ) → List ℕ
path_in folder name = folder ++ 47 ∷ name

-- each file is the one of its name in the folder, by what the file of a path may give
pub record IsReadFrom (gives : List ℕ → Option (List ℕ) → Type 0) (folder : List ℕ) (files : Data) : Type 0 where
  pub bidi : AreGiven (gives (path_in folder (codes "DerivedBidiClass.txt"))) files.bidi.items
  pub brackets : AreGiven (gives (path_in folder (codes "BidiBrackets.txt"))) files.brackets.items
  pub mirror : AreGiven (gives (path_in folder (codes "BidiMirroring.txt"))) files.mirror.items
  pub lb : AreGiven (gives (path_in folder (codes "LineBreak.txt"))) files.lb.items
  pub ea : AreGiven (gives (path_in folder (codes "EastAsianWidth.txt"))) files.ea.items
