mod ShortLists
