-- What stays true in the loop of `readers_of`.
use Rattle.std.proofs.Common.{◌≡◌, List, ℕ, Some, take}
use Rattle.std.specs.Prelude.{map as each}
use Rattle.desk_files.specs.Files.{bytes_of}
use Rattle.desk_files.proofs.in_memory.readers_of.Given as goal

abbrev pub invariant-loop-file : goal.invariant-loop-file
invariant-loop-file l = each (λ m. Some m.bytes.now) l.readers.items ≡ each (λ (file : List ℕ). Some file) (bytes_of (take l.file-index l.files))
