-- A footer as the definitions have it.
use Rattle.col_index.specs.Versions.{version_number}
use Rattle.col_model.specs.Keys.{FileFooter}
use Rattle.col_keys.specs.declared.file_footer.Footer.{Footer}

-- its fields
abbrev pub footer_of : Footer → FileFooter
footer_of f = record {
  table_length = f.key_table_len;
  row_count = f.num_docs;
  version = version_number f.version;
}
