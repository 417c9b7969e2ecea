mod TextLemmas
mod PutLemmas
mod RecordLemmas
mod BlockLemmas
mod ExportLemmas
mod FileLemmas
