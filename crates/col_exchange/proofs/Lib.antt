mod ExportLemmas
mod ImportLemmas
