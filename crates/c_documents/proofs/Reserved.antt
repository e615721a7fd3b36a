-- A document of which operations are paid for.
use Rattle.std.specs.Prelude.{◌≡◌, ℕ, max}
use Rattle.live_document.specs.Documents.{LiveDocument, IsDrawnAlike}

pub paid_for : (old new : LiveDocument) (operations : ℕ) → new.desk.set ≡ old.desk.set → new.desk.site ≡ old.desk.site → new.desk.waiting ≡ old.desk.waiting
    → new.desk.spare ≡ max old.desk.spare operations → IsDrawnAlike old new → new.paragraphs ≡ old.paragraphs → new.behind ≡ old.behind → new.window ≡ old.window → new.laid ≡ old.laid
    → new ≡ record old { desk = record old.desk { spare = max old.desk.spare operations } }
paid_for old new operations set site waiting spare drawn paragraphs behind window laid = λ i. record {
  desk = record { set = set i; site = site i; waiting = waiting i; spare = spare i };
  tables = drawn.tables i;
  width = drawn.width i;
  base = drawn.base i;
  paragraphs = paragraphs i;
  behind = behind i;
  most = drawn.most i;
  window = window i;
  laid = laid i;
}
