mod Answering
mod Paging
mod Trying
