-- What is behind the handles of tables and pictures: an entry for each type.
use denote.RattleType.{RattleType}
use Rattle.pictures.specs.contracts.shared_tables.SharedTables as shared_tables
use Rattle.pictures.specs.contracts.picture.Picture as picture

abbrev pub tables_row : RattleType
tables_row = shared_tables.the_row

abbrev pub picture_row : RattleType
picture_row = picture.the_row
