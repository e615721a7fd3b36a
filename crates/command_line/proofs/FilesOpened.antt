-- Files that are opened in order, none of which has failed.
use Rattle.std.proofs.Common.{◌≡◌, ℕ, ◌<◌, ◌+◌, Bool, false, List, [], ◌∷◌, ◌++◌, length, take, get_or, sym, ap, subst, ◌∙◌}
use Rattle.std.proofs.lemmas.List.{take_more, length_push}
use Rattle.std.proofs.lemmas.Slice.Zip.{all_zipped_more}
use Rattle.std.specs.List.{AllZip}
use Rattle.std.specs.Prelude.{map as each}
use Rattle.desk_files.specs.Readers.{AreWorking}

working-push : {X : Type 0} (failed : X → Bool) (xs : List X) (x : X) → AreWorking (each failed xs) → failed x ≡ false → AreWorking (each failed (xs ++ x ∷ []))
working-push failed [] x h works = (works, tt)
working-push failed (y ∷ xs) x h works = (h.0, working-push failed xs x h.1 works)

-- as many files as paths so far, each opened by its path, and none has failed
pub record AreOpened {A B : Type 0} (Opens : A → B → Type 0) (failed : B → Bool) (paths : List A) (number : ℕ) (files : List B) : Type 0 where
  pub count : length files ≡ number
  pub opened : AllZip Opens (take number paths) files
  pub working : AreWorking (each failed files)

-- one more file was opened, by the next path
pub next_opened : {A B G : Type 0} (Gives : A → G → Type 0) (given : B → G) (failed : B → Bool) (paths : List A) (files more : List B) (j : ℕ) (d : A) (file : B) (g : G)
    → more ≡ files ++ file ∷ [] → j < length paths → Gives (get_or paths j d) g → given file ≡ g → failed file ≡ false
    → length files ≡ j → AllZip (λ path file. Gives path (given file)) (take j paths) files → AreWorking (each failed files)
    → AreOpened (λ path file. Gives path (given file)) failed paths (j + 1) more
next_opened {A} {B} Gives given failed paths files more j d file g is within gives gave works count opened working =
    let Opens : A → B → Type 0 = λ path file. Gives path (given file) in
    let opens : Opens (get_or paths j d) file = subst (Gives (get_or paths j d)) (sym gave) gives in
    let next : AllZip Opens (take (j + 1) paths) (files ++ file ∷ []) =
    subst (λ some. AllZip Opens some (files ++ file ∷ [])) (sym (take_more paths j d within)) (all_zipped_more Opens (take j paths) files (get_or paths j d) file opened opens) in
    subst (AreOpened Opens failed paths (j + 1)) (sym is) record {
      count = length_push files file ∙ ap (λ n. n + 1) count;
      opened = next;
      working = working-push failed files file working works;
    }
