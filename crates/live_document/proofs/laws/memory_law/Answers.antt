-- An edit keeps no more.
use Rattle.std.proofs.Common.{length, arith}
use Rattle.live_document.specs.Cost.{allowed}
use Rattle.live_document.proofs.Forgotten.{kept-edited}
use Rattle.live_document.proofs.laws.memory_law.Goals as goal

pub returns : goal.returns
returns c = λ before shown changed steps place above below one touched.
    let order = one.order in
    kept-edited shown.paragraphs changed.paragraphs steps one.first one.end (allowed shown.most shown.width (length shown.window.rows)) (omega arith) touched one.held
