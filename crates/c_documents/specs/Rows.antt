-- What is behind the handle of a document: an entry for its type.
use denote.RattleType.{RattleType}
use Rattle.c_documents.specs.contracts.told_document.ToldDocument as told_document

abbrev pub document_row : RattleType
document_row = told_document.the_row
