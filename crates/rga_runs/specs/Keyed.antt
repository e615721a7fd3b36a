-- Which stretch an identifier may be of: one that begins with the last identifier of its site that isn't above.
use Rattle.std.specs.Prelude.{◌+◌, ◌*◌, ℕ, Bool, not, ◌&&◌, List, [], ◌∷◌, Option, Some, None, nat_lt, nat_eq, if◌then◌else◌}
use Rattle.bg_types.specs.Identifier.{Identifier}
use Rattle.rga_runs.specs.declared.key.Key.{Key}

-- by this number keys are in order: by sites, and those of a site by counters
abbrev pub rank : Identifier → ℕ
rank q = q.site * 4294967296 + q.counter

abbrev pub or_last : Option Key → Option Key → Option Key
or_last (Some k) o = Some k
or_last None o = o

-- the last key whose number isn't above this one
abbrev pub last_key : ℕ → List Key → Option Key
last_key r [] = None
last_key r (k ∷ ks) = or_last (last_key r ks) (if nat_lt r (rank k.first) then None else Some k)

-- what a key says to identifiers of a site
abbrev pub of_site : ℕ → Option Key → Option (Identifier × ℕ)
of_site site None = None
of_site site (Some k) = if nat_eq k.first.site site then Some (k.first, k.number) else None

-- the first identifier of the stretch that an identifier may be of, and the number of its block
abbrev pub look_in : List Key → Identifier → Option (Identifier × ℕ)
look_in ks q = of_site q.site (last_key (rank q) ks)

-- the identifier q may be of a stretch that begins with f, and isn't nearer to what was found so far
abbrev pub reaches : Identifier → Identifier → Option (Identifier × ℕ) → Bool
reaches f q None = nat_eq f.site q.site && not (nat_lt q.counter f.counter)
reaches f q (Some e) = nat_eq f.site q.site && (not (nat_lt q.counter f.counter) && not (nat_lt f.counter e.0.counter))

-- the number of the first key
abbrev pub begins : List Key → ℕ
begins [] = 0
begins (k ∷ ks) = rank k.first
