-- The goals of `one_outcome` that are answered by hand.
use Rattle.desk_files.proofs.Flaws.{file_laws}
use Rattle.desk_files.proofs.LowerLaws.{FileLaws, ListLaws}
use Rattle.desk_files.proofs.OneCause.{one_lists, one_set, faulty_apart, one_faulty, refusal_apart, one_refused}
use Rattle.desk_files.proofs.laws.one_outcome.Goals as goal

pub returns : goal.returns
returns c = λ files.
    let codec : FileLaws = file_laws c.one_spelling.ensures.one_list c.spelled_or_faulty.ensures.never_both c.spelled_or_faulty.ensures.one_fault in
    let lists : ListLaws = record { one_set = c.one_set.ensures; one_refusal = c.one_refusal.ensures.first; none_refused = c.none_refused.ensures } in
    record {
      one_list = one_lists codec files;
      one_set = one_set codec lists files;
      one_faulty = one_faulty codec files;
      one_refusal = one_refused codec lists files;
      spelled_or_faulty = faulty_apart codec files;
      set_or_refusal = refusal_apart codec lists files;
    }
